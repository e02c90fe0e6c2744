use Rattle.asm_laws.proofs.Loads.{text_loads}
use Rattle.asm_laws.proofs.files_load.Goals as goal

pub returns : goal.returns
returns c = text_loads
