-- What a kept chooser answers.
use Rattle.std.proofs.Common.{Option, Some, None, IfSome}
use Rattle.mem_usher.specs.declared.sight.Sight.{Sight}
use Rattle.mem_usher.specs.declared.sight.Choice.{Choice}
use Rattle.policy_box.specs.Policies.{IsInRange, Fits, IsChooser}

pub some_fits : {F : Type 0} (callable : F → Type 0) (R : F → Sight → Option Choice → Type 0) (choose : F) (sight : Sight) (answer : Option Choice) → IsChooser callable R choose → IsInRange sight → R choose sight answer → IfSome answer (Fits sight)
some_fits callable R choose sight None k r a = tt
some_fits callable R choose sight (Some choice) k r a = k.fits sight choice r a
