-- The pipes of a system by id. An id that no pipe has is a place without one.
use Rattle.std.specs.Prelude.{ℕ, zero, suc, ◌-◌, ◌≤◌, nat_lt, cond, List, [], ◌∷◌, ◌++◌, length, slice_get, Option, Some, None, is_some, is_none, IfSome}
use Rattle.std.specs.List.{All, count_by, position_or_len}
use Rattle.std.specs.Option.{option_map}
use Rattle.call_table.specs.declared.limit.TheConstants.{PIPES, PIPE_BYTES}

-- the pipe in a place, or past the last place
abbrev pub pipe_in : Option (Option (List ℕ)) → Option (List ℕ)
pipe_in None = None
pipe_in (Some place) = place

abbrev pub pipe_at : List (Option (List ℕ)) → ℕ → Option (List ℕ)
pipe_at pipes id = pipe_in (slice_get pipes id)

abbrev pub bytes_of : Option (List ℕ) → List ℕ
bytes_of None = []
bytes_of (Some bytes) = bytes

-- the bytes of a pipe, oldest first
abbrev pub bytes_at : List (Option (List ℕ)) → ℕ → List ℕ
bytes_at pipes id = bytes_of (pipe_at pipes id)

abbrev pub room_of : Option (List ℕ) → ℕ
room_of None = 0
room_of (Some bytes) = PIPE_BYTES - length bytes

-- how many bytes more a pipe can hold
abbrev pub room_at : List (Option (List ℕ)) → ℕ → ℕ
room_at pipes id = room_of (pipe_at pipes id)

abbrev pub pipe_count : List (Option (List ℕ)) → ℕ
pipe_count pipes = count_by is_some pipes

-- the lowest id that no pipe has: None at 64 pipes
abbrev pub free_id : List (Option (List ℕ)) → Option ℕ
free_id pipes = cond (nat_lt (pipe_count pipes) PIPES) (Some (position_or_len is_none pipes)) None

-- an empty pipe in the first place that has none
abbrev pub with_pipe : List (Option (List ℕ)) → List (Option (List ℕ))
with_pipe [] = Some [] ∷ []
with_pipe (None ∷ pipes) = Some [] ∷ pipes
with_pipe (Some bytes ∷ pipes) = Some bytes ∷ with_pipe pipes

-- the pipes after an id was given
abbrev pub created : List (Option (List ℕ)) → Option ℕ → List (Option (List ℕ))
created pipes None = pipes
created pipes (Some id) = with_pipe pipes

-- the pipes with the bytes of one changed
abbrev pub changed_at : (List ℕ → List ℕ) → List (Option (List ℕ)) → ℕ → List (Option (List ℕ))
changed_at change [] id = []
changed_at change (pipe ∷ pipes) zero = option_map change pipe ∷ pipes
changed_at change (pipe ∷ pipes) (suc id) = pipe ∷ changed_at change pipes id

abbrev pub with_more : List ℕ → List ℕ → List ℕ
with_more more bytes = bytes ++ more

abbrev pub IsPipe : Option (List ℕ) → Type 0
IsPipe pipe = IfSome pipe (λ bytes. length bytes ≤ PIPE_BYTES)

-- the limits of a system's pipes
pub record IsWithinLimits (pipes : List (Option (List ℕ))) : Type 0 where
  pub count : length pipes ≤ PIPES
  pub bytes : All IsPipe pipes
