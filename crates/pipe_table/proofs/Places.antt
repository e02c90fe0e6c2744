-- The places of pipes.
use Rattle.std.proofs.Common.{◌≡◌, ◌⊎◌, inl, inr, ℕ, ◌+◌, ◌<◌, ◌≤◌, zero, suc, true, not, nat_lt, cond, List, [], ◌∷◌, ◌++◌, length, take, set, get_or, Option, Some, None, is_some, is_none, unwrap_or, refl, sym, ◌∙◌, ap, subst, arith}
use Rattle.std.specs.List.{All, position, position_or_len}
use Rattle.std.proofs.Math.Seq.{take-length}
use Rattle.std.proofs.lemmas.List.{length-take}
use Rattle.std.specs.Option.{option_map}
use Rattle.std.proofs.lemmas.Bool.{cases_lt, lt-ltb, le-ltb, ltb-true, cond-true, cond-false}
use Rattle.std.proofs.lemmas.Option.{cond_some, slice_get_read}
use Rattle.std.proofs.lemmas.List.{length-set, length_push}
use Rattle.std.proofs.lemmas.List.Elements.{All-set, All-push, All-take}
use Rattle.std.proofs.lemmas.List.Sums.{sum_by-cons, count_by-le-length, prefix_len-le-length}
use Rattle.pipe_table.specs.Table.{pipe_in, pipe_at, pipe_count, free_id, with_pipe, changed_at, IsPipe, IsWithinLimits}

-- the bytes of one pipe changed, as a write of its place
pub changed_is_set : (change : List ℕ → List ℕ) (pipes : List (Option (List ℕ))) (id : ℕ) (d : Option (List ℕ)) → changed_at change pipes id ≡ set pipes id (option_map change (get_or pipes id d))
changed_is_set change [] id d = refl
changed_is_set change (pipe ∷ pipes) zero d = refl
changed_is_set change (pipe ∷ pipes) (suc id) d = ap (λ rest. pipe ∷ rest) (changed_is_set change pipes id d)

pub changed_past : (change : List ℕ → List ℕ) (pipes : List (Option (List ℕ))) (id : ℕ) → length pipes ≤ id → changed_at change pipes id ≡ pipes
changed_past change [] id past = refl
changed_past change (pipe ∷ pipes) zero past = absurd (omega arith)
changed_past change (pipe ∷ pipes) (suc id) past =
    let rest_past : length pipes ≤ id = omega arith in ap (λ rest. pipe ∷ rest) (changed_past change pipes id rest_past)

-- the first place without a pipe
abbrev first_free : List (Option (List ℕ)) → ℕ
first_free pipes = position_or_len is_none pipes

-- an empty pipe in the first place that has none, as a write of it or an append
pub with_pipe_set : (pipes : List (Option (List ℕ))) → first_free pipes < length pipes → set pipes (first_free pipes) (Some []) ≡ with_pipe pipes
with_pipe_set [] within = absurd (omega arith)
with_pipe_set (None ∷ pipes) within = refl
with_pipe_set (Some bytes ∷ pipes) within =
    let e : 1 + first_free pipes ≡ suc (first_free pipes) = omega arith in
    let rest_within : first_free pipes < length pipes = omega arith in
    rw e (ap (λ rest. Some bytes ∷ rest) (with_pipe_set pipes rest_within))

pub with_pipe_push : (pipes : List (Option (List ℕ))) → length pipes ≤ first_free pipes → pipes ++ Some [] ∷ [] ≡ with_pipe pipes
with_pipe_push [] past = refl
with_pipe_push (None ∷ pipes) past = absurd (omega arith)
with_pipe_push (Some bytes ∷ pipes) past =
    let rest_past : length pipes ≤ first_free pipes = omega arith in ap (λ rest. Some bytes ∷ rest) (with_pipe_push pipes rest_past)

-- either a place has no pipe, or there are as many pipes as places
abbrev Places : List (Option (List ℕ)) → Type 0
Places pipes =
    ((first_free pipes < length pipes) × (pipe_count pipes < length pipes)) ⊎ ((first_free pipes ≡ length pipes) × (pipe_count pipes ≡ length pipes))

places : (pipes : List (Option (List ℕ))) → Places pipes
places [] = inr (refl, refl)
places (None ∷ pipes) =
    let count = sum_by-cons (λ pipe. cond (is_some pipe) 1 0) None pipes in
    let few = count_by-le-length is_some pipes in
    inl (omega arith, omega (arith, count, few))
places (Some bytes ∷ pipes) =
    let count = sum_by-cons (λ pipe. cond (is_some pipe) 1 0) (Some bytes) pipes in
    elim (places pipes) [ inl h ↦ inl (omega (arith, h.0), omega (arith, count, h.1)) | inr h ↦ inr (omega (arith, h.0), omega (arith, count, h.1)) ]

-- an id is given by the first place without a pipe
pub free_id_is : (pipes : List (Option (List ℕ))) → length pipes ≤ 64 → free_id pipes ≡ cond (nat_lt (first_free pipes) 64) (Some (first_free pipes)) None
free_id_is pipes few =
    elim (places pipes) [
      | inl h ↦
          let count : nat_lt (pipe_count pipes) 64 ≡ true = let l : pipe_count pipes < 64 = omega (arith, h.1) in lt-ltb _ _ l in
          let first : nat_lt (first_free pipes) 64 ≡ true = let l : first_free pipes < 64 = omega (arith, h.0) in lt-ltb _ _ l in
          rw (count, first) refl
      | inr h ↦ rw (h.0, h.1) refl
    ]

-- a pipe is added only where there are fewer than 64
pub few_pipes : (pipes : List (Option (List ℕ))) (id : ℕ) → free_id pipes ≡ Some id → pipe_count pipes < 64
few_pipes pipes id h = ltb-true (pipe_count pipes) 64 (cond_some (nat_lt (pipe_count pipes) 64) (first_free pipes) id h).0

pub limits_set : (pipes : List (Option (List ℕ))) (id : ℕ) (pipe : Option (List ℕ)) → IsWithinLimits pipes → IsPipe pipe → IsWithinLimits (set pipes id pipe)
limits_set pipes id pipe limits fits =
    record { count = omega (arith, limits.count, length-set pipes id pipe); bytes = All-set IsPipe pipes id pipe fits limits.bytes }

limits_push : (pipes : List (Option (List ℕ))) (pipe : Option (List ℕ)) → IsWithinLimits pipes → length pipes < 64 → IsPipe pipe → IsWithinLimits (pipes ++ pipe ∷ [])
limits_push pipes pipe limits few fits =
    record { count = omega (arith, few, length_push pipes pipe); bytes = All-push IsPipe pipes pipe limits.bytes fits }

pub limits_added : (pipes : List (Option (List ℕ))) → IsWithinLimits pipes → pipe_count pipes < 64 → IsWithinLimits (with_pipe pipes)
limits_added pipes limits few =
    let fits : IsPipe (Some []) = omega arith in
    elim (places pipes) [
      | inl h ↦ subst IsWithinLimits (with_pipe_set pipes h.0) (limits_set pipes (first_free pipes) (Some []) limits fits)
      | inr h ↦
          let past : length pipes ≤ first_free pipes = omega (arith, h.0) in
          let room : length pipes < 64 = omega (arith, h.1) in
          subst IsWithinLimits (with_pipe_push pipes past) (limits_push pipes (Some []) limits room fits)
    ]

pub none_free : (pipes : List (Option (List ℕ))) (first : ℕ) → length pipes ≤ 64 → first ≡ first_free pipes → 64 ≤ first → None ≡ free_id pipes
none_free pipes first few e past = sym (free_id_is pipes few ∙ cond-false _ _ _ (ap (λ n. nat_lt n 64) (sym e) ∙ le-ltb first 64 past))

pub some_free : (pipes : List (Option (List ℕ))) (first : ℕ) → length pipes ≤ 64 → first ≡ first_free pipes → first < 64 → Some first ≡ free_id pipes
some_free pipes first few e within =
    ap Some e ∙ sym (free_id_is pipes few ∙ cond-true _ _ _ (ap (λ n. nat_lt n 64) (sym e) ∙ lt-ltb first 64 within))

-- the first place by `position`
pub first_free_is : (pipes : List (Option (List ℕ))) → unwrap_or (position is_none pipes) (length pipes) ≡ first_free pipes
first_free_is pipes =
    elim (cases_lt (first_free pipes) (length pipes)) [
      | inl within ↦ rw (lt-ltb (first_free pipes) (length pipes) within) refl
      | inr past ↦
          let all : length pipes ≡ first_free pipes = omega (arith, past, prefix_len-le-length (λ pipe. not (is_none pipe)) pipes) in
          rw (le-ltb (first_free pipes) (length pipes) past) all
    ]

-- a place that was read
pub pipe_at_read : (pipes : List (Option (List ℕ))) (id : ℕ) (pipe : Option (List ℕ)) → id < length pipes → pipe ≡ get_or pipes id pipe → pipe ≡ pipe_at pipes id
pipe_at_read pipes id pipe within read = sym (ap pipe_in (slice_get_read pipes (length pipes) id pipe refl within read))

pub changed_read : (change : List ℕ → List ℕ) (pipes : List (Option (List ℕ))) (id : ℕ) (pipe new : Option (List ℕ)) → pipe ≡ get_or pipes id pipe → new ≡ option_map change pipe → set pipes id new ≡ changed_at change pipes id
changed_read change pipes id pipe new read e =
    ap (set pipes id) (e ∙ ap (option_map change) read) ∙ sym (changed_is_set change pipes id pipe)

-- the pipes after one was added
pub add_set : (pipes : List (Option (List ℕ))) (first : ℕ) (pipe : List ℕ) → first ≡ first_free pipes → first < length pipes → pipe ≡ [] → set pipes first (Some pipe) ≡ with_pipe pipes
add_set pipes first pipe e within empty =
    let here : first_free pipes < length pipes = omega arith in
    rw (e, empty) (with_pipe_set pipes here)

pub add_push : (pipes grown : List (Option (List ℕ))) (first : ℕ) (pipe : List ℕ) → first ≡ first_free pipes → length pipes ≤ first → pipe ≡ [] → grown ≡ pipes ++ Some pipe ∷ [] → grown ≡ with_pipe pipes
add_push pipes grown first pipe e past empty pushed =
    let here : length pipes ≤ first_free pipes = omega arith in
    pushed ∙ ap (λ p. pipes ++ Some p ∷ []) empty ∙ with_pipe_push pipes here

pub limits_created : (pipes grown : List (Option (List ℕ))) (id : ℕ) → IsWithinLimits pipes → free_id pipes ≡ Some id → grown ≡ with_pipe pipes → IsWithinLimits grown
limits_created pipes grown id limits given added = subst IsWithinLimits (sym added) (limits_added pipes limits (few_pipes pipes id given))

all_take : (n : ℕ) (pipes : List (Option (List ℕ))) → All IsPipe pipes → All IsPipe (take n pipes)
all_take n pipes h = All-take IsPipe n pipes h

pub limits_take : (n : ℕ) (pipes : List (Option (List ℕ))) → IsWithinLimits pipes → IsWithinLimits (take n pipes)
limits_take n pipes limits = record { count = omega (arith, limits.count, length-take n pipes); bytes = all_take n pipes limits.bytes }

-- the pipe that was made last is taken back
pub undone_pipe : (pipes : List (Option (List ℕ))) → take (length pipes) (set (with_pipe pipes) (first_free pipes) None) ≡ pipes
undone_pipe [] = refl
undone_pipe (None ∷ pipes) = ap (λ rest. None ∷ rest) (take-length pipes)
undone_pipe (Some bytes ∷ pipes) =
    let e : 1 + first_free pipes ≡ suc (first_free pipes) = omega arith in
    rw e (ap (λ rest. Some bytes ∷ rest) (undone_pipe pipes))
