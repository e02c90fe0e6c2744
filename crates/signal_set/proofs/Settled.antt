-- What holds of the signals of a process at every moment.
use Rattle.std.proofs.Common.{◌≡◌, ℕ, ◌/◌, ◌%◌, ◌^◌, ◌<◌, ◌==◌, zero, suc, min, Bool, true, false, cond, bit_or, List, [], ◌∷◌, set, replicate, Option, Some, IsSome, slice_get, unwrap_or, refl, sym, ◌∙◌, ap, arith}
use Rattle.std.specs.List.{find}
use Rattle.std.proofs.lemmas.Bool.{and_from, not_from_false, false≢true}
use Rattle.std.proofs.lemmas.Nat.{and_assoc, and_le_r}
use Rattle.std.proofs.lemmas.Nat.Bits.{bit_at_and}
use Rattle.signal_set.specs.declared.act.Act.{Act}
use Rattle.signal_set.specs.declared.act.Act.TheVariants.{Default, Ignore, Handler}
use Rattle.signal_set.specs.Signals.{SignalState, IsSettled, maskable, kept_bits, is_pending, is_masked, is_deliverable, lowest_deliverable, mask_after}

-- nothing is pending where nothing was raised
none_pending : (n k : ℕ) → unwrap_or (slice_get (replicate n false) k) false ≡ false
none_pending zero k = refl
none_pending (suc n) zero = refl
none_pending (suc n) (suc k) = none_pending n k

pub settled_none : (mask : ℕ) (acts : List Act) → kept_bits mask ≡ mask → IsSettled (record { pending = replicate 32 false; mask = mask; acts = acts })
settled_none mask acts kept =
    record { heeded = λ s h. absurd (false≢true (sym (none_pending 32 s) ∙ h)); kept = kept }

-- a signal that is pending after another was taken out was pending before
pending_before : (pending : List Bool) (i k : ℕ) → unwrap_or (slice_get (set pending i false) k) false ≡ true → unwrap_or (slice_get pending k) false ≡ true
pending_before [] i k h = h
pending_before (x ∷ xs) zero zero h = absurd (false≢true h)
pending_before (x ∷ xs) zero (suc k) h = h
pending_before (x ∷ xs) (suc i) zero h = h
pending_before (x ∷ xs) (suc i) (suc k) h = pending_before xs i k h

-- to drop bits twice is to drop them once
pub kept_twice : (word : ℕ) → kept_bits (kept_bits word) ≡ kept_bits word
kept_twice word = and_assoc maskable word maskable

pub kept_after : (act : Act) (signal mask : ℕ) → kept_bits mask ≡ mask → kept_bits (mask_after act signal mask) ≡ mask_after act signal mask
kept_after Default signal mask kept = kept
kept_after Ignore signal mask kept = kept
kept_after (Handler entry restorer) signal mask kept = kept_twice (bit_or mask (2 ^ signal))

pub settled_taken : (state : SignalState) (signal mask : ℕ) → IsSettled state → kept_bits mask ≡ mask → IsSettled (record { pending = set state.pending signal false; mask = mask; acts = state.acts })
settled_taken state signal mask settled kept =
    record { heeded = λ s h. settled.heeded s (pending_before state.pending signal s h); kept = kept }

-- 9 is never masked
kill_unmasked : (state : SignalState) → IsSettled state → is_masked state 9 ≡ false
kill_unmasked state settled =
    let bit : state.mask / 2 ^ 9 % 2 ≡ min (state.mask / 2 ^ 9 % 2) 0 =
    ap (λ m. m / 2 ^ 9 % 2) (sym settled.kept) ∙ bit_at_and state.mask maskable 9 in
    let none : state.mask / 2 ^ 9 % 2 ≡ 0 = omega arith in ap (λ n. n == 1) none

-- one more place to look in
found_later : (test : Bool) (x : ℕ) (rest : Option ℕ) → IsSome rest → IsSome (cond test (Some x) rest)
found_later test x rest h = elim test as (λ b. IsSome (cond b (Some x) rest)) [ true ↦ refl | false ↦ h ]

-- what passes a test is found, or something before it
found_among : (p : ℕ → Bool) (a b c s : ℕ) (xs : List ℕ) → p s ≡ true → IsSome (find p (a ∷ b ∷ c ∷ s ∷ xs))
found_among p a b c s xs h =
    let here : IsSome (cond (p s) (Some s) (find p xs)) = rw h refl in
    found_later (p a) a _ (found_later (p b) b _ (found_later (p c) c _ here))

pub kill_deliverable : (state : SignalState) → IsSettled state → is_pending state 9 ≡ true → IsSome (lowest_deliverable state)
kill_deliverable state settled h =
    found_among (is_deliverable state) 2 4 5 9 (10 ∷ 11 ∷ 12 ∷ 13 ∷ 15 ∷ 17 ∷ 24 ∷ []) (and_from _ _ h (not_from_false _ (kill_unmasked state settled)))

-- a mask has no bit above that of 24
pub small_mask : (mask : ℕ) → kept_bits mask ≡ mask → mask < 2 ^ 25
small_mask mask kept = omega (arith, kept, and_le_r mask maskable)
