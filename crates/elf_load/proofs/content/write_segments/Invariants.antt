use Rattle.std.proofs.Common.{◌≡◌, ℕ, ◌<◌, ◌+◌, ◌*◌, drop, slice_index}
use Rattle.elf_load.specs.Image.{placed_byte}
use Rattle.elf_load.proofs.content.write_segments.Given as goal

abbrev pub invariant-loop-h : goal.invariant-loop-h
invariant-loop-h l = (k : ℕ) → k < 4096 → placed_byte l.file (drop l.h-index l.headers) (l.page * 4096 + k) (slice_index l.bytes k) ≡ placed_byte l.file l.headers (l.page * 4096 + k) (slice_index l.fn.bytes k)
