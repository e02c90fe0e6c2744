use Rattle.std.proofs.Common.{◌≡◌, ◌++◌, ◌+◌, ◌≤◌, take, length, vec_len, vec_capacity}
use Rattle.outside.proofs.memory.append.Given as goal

-- the bytes up to the index were appended, in the same memory
abbrev pub invariant-loop-byte : goal.invariant-loop-byte
invariant-loop-byte l = record {
  items : l.bytes.items ≡ l.fn.bytes.items ++ take l.byte-index l.more;
  len : vec_len l.bytes ≡ vec_len l.fn.bytes + l.byte-index;
  capacity : vec_capacity l.bytes ≡ vec_capacity l.fn.bytes;
  fits : vec_len l.fn.bytes + length l.more ≤ vec_capacity l.fn.bytes;
}
