-- The texts of the programs.
use Rattle.std.specs.Prelude.{ℕ, ◌*◌, ◌%◌, List, [], ◌∷◌, ◌++◌, length, replicate, codes}
use Rattle.std.specs.Fmt.{decimal}
use Rattle.work_gen.specs.declared.draw.Kind.{Kind}
use Rattle.work_gen.specs.declared.draw.Kind.TheVariants.{Counts, Pipes, Writes, Signals}
use Rattle.work_gen.specs.declared.draw.Draw.{Draw}

-- the name of an image, and of the file that it writes
abbrev pub name_of : ℕ → List ℕ
name_of index = codes "g" ++ decimal index

-- the exit code of a size
abbrev pub code_of : ℕ → ℕ
code_of size = size % 251

-- how each program ends: a byte to the terminal, and an exit by the code
abbrev pub end_text : ℕ → List ℕ
end_text code = codes "li a0, 1\nla a1, d\nli a2, 1\nsys 9\nli a0, " ++ decimal code ++ codes "\nsys 1\n"

-- it counts down from so many
abbrev pub counting_text : ℕ → List ℕ
counting_text count = codes "li s0, " ++ decimal count ++ codes "\nl: addi s0, s0, -1\nbne s0, x0, l\n"

-- it makes a pipe and forks, reads what the child writes, and waits for it
abbrev pub parent_text : List ℕ
parent_text = codes "la a0, p\nsys 11\nsys 4\nla a1, p\nbeq a0, x0, c\nlw a0, 0(a1)\nla a1, q\nli a2, 8\nsys 8\nli a0, 0\nsys 5\n"

-- the child writes eight bytes into the pipe
abbrev pub child_text : List ℕ
child_text = codes "c: lw a0, 4(a1)\nla a1, q\nli a2, 8\nsys 9\nli a0, 0\nsys 1\np: .space 8\nq: .space 8\n"

-- it opens a file whose name has so many bytes
abbrev pub opening_text : ℕ → List ℕ
opening_text name_length = codes "la a0, n\nli a1, " ++ decimal name_length ++ codes "\nli a2, 6\nsys 6\n"

-- it writes so many bytes to it
abbrev pub filling_text : ℕ → List ℕ
filling_text count = codes "la a1, z\nli a2, " ++ decimal count ++ codes "\nsys 9\n"

-- the file's name and its bytes
abbrev pub content_text : List ℕ → ℕ → List ℕ
content_text name count = codes "n: .ascii \"" ++ name ++ codes "\"\nz: .ascii \"" ++ replicate count 122 ++ codes "\"\n"

-- it has a handler for signal 10, and sends itself that signal
abbrev pub sending_text : List ℕ
sending_text = codes "li a0, 10\nla a1, h\nla a2, k\nsys 15\nsys 2\nli a1, 10\nsys 14\n"

-- the handler, and where it returns to
abbrev pub handler_text : List ℕ
handler_text = codes "h: ret\nk: sys 16\n"

-- what a program does before its end
abbrev pub front_text : Kind → ℕ → ℕ → List ℕ
front_text Counts index size = counting_text (100 * size)
front_text Pipes index size = parent_text
front_text Writes index size = opening_text (length (name_of index)) ++ filling_text size
front_text Signals index size = sending_text

-- what stands behind its end
abbrev pub back_text : Kind → ℕ → ℕ → List ℕ
back_text Counts index size = []
back_text Pipes index size = child_text
back_text Writes index size = content_text (name_of index) size
back_text Signals index size = handler_text

-- the byte that each program writes
abbrev pub dot_text : List ℕ
dot_text = codes "d: .ascii \".\"\n"

-- the text of an image
abbrev pub image_text : ℕ → Draw → List ℕ
image_text index draw = front_text draw.kind index draw.size ++ (end_text (code_of draw.size) ++ (back_text draw.kind index draw.size ++ dot_text))
