use Rattle.mosix_shell.proofs.Loading.{kind_told}
use Rattle.mosix_shell.proofs.images.load_user.Goals as goal

pub returns-clause-refused : goal.returns-clause-refused
returns-clause-refused g c =
    kind_told _ c.name_of.result.now c.args.words.now c.in-Ok.file c.as_slice.result.now c.in-Err-load_file.e c.in-Ok.ensures.bytes c.name_of.ensures c.as_slice.ensures c.in-Err-load_file.ensures.refused
