use Rattle.std.proofs.Common.{arith, refl, rules, length, ◌≡◌}
use Rattle.elf_load.specs.Image.{start_page}
use Rattle.elf_load.specs.Parts.{byte_from}
use Rattle.elf_load.proofs.Started.{added_now, start_page_is}
use Rattle.elf_load.proofs.start.add_page.Goals as goal

pub returns : goal.returns
returns c =
    let before = byte_from c.args.table c.args.stack.now in
    let long : length c.page_bytes-bytes.result ≡ 4096 = search rules in
    added_now (start_page c.args.file.now c.args.headers.now before) c.args.pages.now c.put_page.new.pages c.args.page _ c.requires.part c.requires.page (c.if-is_mapped.ensures.free refl) (omega arith)
    (start_page_is c.args.file.now c.args.headers.now before c.args.page c.page_rights-rights.result c.page_bytes-bytes.result c.requires.here long c.page_bytes-bytes.ensures c.page_rights-rights.ensures.is)
    c.in_ok-put_page.ensures
