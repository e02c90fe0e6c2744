-- The words that begin lines.
use Rattle.std.specs.Prelude.{ℕ, List, Option, Some, None, codes, if◌then◌else◌}
use Rattle.std.specs.Str.{bytes_eq}
use Rattle.shell_text.specs.declared.keyword.Keyword.{Keyword}
use Rattle.shell_text.specs.declared.keyword.Keyword.TheVariants.{Run, Kill, Move, Feed, Eof, Wait, After, Held, Slots}

abbrev pub keyword_named : List ℕ → Option Keyword
keyword_named name =
    if bytes_eq name (codes "run") then Some Run else
    (if bytes_eq name (codes "kill") then Some Kill else
    (if bytes_eq name (codes "move") then Some Move else
    (if bytes_eq name (codes "type") then Some Feed else
    (if bytes_eq name (codes "eof") then Some Eof else
    (if bytes_eq name (codes "wait") then Some Wait else
    (if bytes_eq name (codes "after") then Some After else
    (if bytes_eq name (codes "held") then Some Held else
    (if bytes_eq name (codes "slots") then Some Slots else
    None))))))))
