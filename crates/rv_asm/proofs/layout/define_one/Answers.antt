-- The table had no such label, so it names what was added.
use Rattle.std.proofs.Common.{ℕ, List, ◌∙◌, sym, ap}
use Rattle.std.specs.Borrow.{Bor}
use Rattle.std.specs.Str.{bytes_eq}
use Rattle.rv_asm.specs.Labels.{found_in}
use Rattle.rv_asm.proofs.LabelLemmas.{added, lacks}
use Rattle.rv_asm.proofs.layout.define_one.Goals as goal

pub returns : goal.returns
returns c name =
    let key : Bor (List ℕ) = record { ref_ptr = (0, 0); now = name } in
    let old = found_in c.args.labels.now in
    added (old name) (found_in c.insert.new.self name) (bytes_eq c.args.label.now name) c.args.definition (c.in_ok-insert.ensures.updates.0 key) (lacks old c.args.label.now name (sym c.contains_key.ensures ∙ c.if-contains_key.false))
