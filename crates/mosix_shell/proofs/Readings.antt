-- How many bytes a reading takes.
use Rattle.std.proofs.Common.{◌≡◌, ◌⊎◌, inl, inr, ℕ, ◌+◌, ◌≤◌, List, ◌++◌, length, drop, refl, ap, ◌∙◌, sym, subst, arith, Option, Some, None, Ok, Err, Bool, true, false}
use Rattle.std.specs.Option.{option_map}
use Rattle.std.proofs.lemmas.List.{drop_at, drop-drop, take_all, length-take}
use Rattle.outside.specs.Outside.{Takes}
use Rattle.outside.specs.declared.traits.Failed.{Failed}
use Rattle.mosix_shell.specs.Why.{cuts_short}
use Rattle.mosix_shell.specs.declared.why.Why.{Why}
use Rattle.mosix_shell.specs.declared.why.Why.TheVariants.{NoMemory}
use Rattle.mosix_shell.proofs.Truth.{true_false}
use Rattle.mosix_shell.specs.Reading.{IsReadOn, IsReadPast, IsReadTo, Reads}

-- what was read stands before what is left
behind : (left bytes rest : List ℕ) → left ≡ bytes ++ rest → drop (length bytes) left ≡ rest
behind left bytes rest h = ap (drop (length bytes)) h ∙ drop_at bytes rest (length bytes) refl

-- a read that fails takes nothing
pub cut_at : (most : ℕ) (left mid now : Option (List ℕ)) (bytes into : List ℕ) (e : Failed) → IsReadOn left bytes mid → length bytes ≤ most → Takes mid now into (Err e) → Reads most left now true
cut_at most None mid now bytes into e so few t = record {
  taken = 0;
  few = omega arith;
  rest = subst (λ o. Takes o now into (Err e)) so t;
  whole = λ h. true_false h;
}
cut_at most (Some left) None now bytes into e so few t = absurd so
cut_at most (Some left) (Some rest) now bytes into e so few t = record {
  taken = length bytes;
  few = few;
  rest = t ∙ ap (λ (x : List ℕ). Some x) (sym (behind left bytes rest so));
  whole = λ h. true_false h;
}

-- what was read and could not be kept is taken
pub cut_behind : (most n : ℕ) (left mid now : Option (List ℕ)) (bytes into : List ℕ) → IsReadOn left bytes mid → length bytes + n ≤ most → Takes mid now into (Ok n) → Reads most left now true
cut_behind most n None mid now bytes into so few t = record {
  taken = 0;
  few = omega arith;
  rest = subst (λ o. Takes o now into (Ok n)) so t;
  whole = λ h. true_false h;
}
cut_behind most n (Some left) None now bytes into so few t = absurd so
cut_behind most n (Some left) (Some rest) now bytes into so few t = record {
  taken = length bytes + n;
  few = few;
  rest = t.2 ∙ ap (λ (x : List ℕ). Some x) (sym (sym (drop-drop n (length bytes) left) ∙ ap (drop n) (behind left bytes rest so)));
  whole = λ h. true_false h;
}

nothing_taken : (left : Option (List ℕ)) → left ≡ option_map (drop 0) left
nothing_taken None = refl
nothing_taken (Some left) = refl

rest_of : (most : ℕ) (left now : Option (List ℕ)) (bytes : List ℕ) → IsReadTo most left now bytes → now ≡ option_map (drop most) left
rest_of most None now bytes h = h
rest_of most (Some left) now bytes h = h.1

-- what was read to the byte behind a limit
pub read_past : (limit : ℕ) (left now : Option (List ℕ)) (bytes : List ℕ) → IsReadTo (limit + 1) left now bytes → IsReadPast limit left bytes
read_past limit None now bytes h = tt
read_past limit (Some left) now bytes h =
    ((λ short. h.0 ∙ take_all (limit + 1) left (omega (arith, short))), (λ long. omega (arith, long, length-take (limit + 1) left, ap length h.0)))

-- nothing was read
pub none_read : (most : ℕ) (left : Option (List ℕ)) → Reads most left left true
none_read most left = record { taken = 0; few = omega arith; rest = nothing_taken left; whole = λ h. true_false h }

pub all_read : (most : ℕ) (left now : Option (List ℕ)) (bytes : List ℕ) → IsReadTo most left now bytes → Reads most left now false
all_read most left now bytes h = record { taken = most; few = omega arith; rest = rest_of most left now bytes h; whole = λ e. refl }

-- a reading that was not cut short may be told as one that was
pub cut_or_not : (most : ℕ) (left now : Option (List ℕ)) (cut : Bool) → Reads most left now false → Reads most left now cut
cut_or_not most left now cut r = record { taken = r.taken; few = r.few; rest = r.rest; whole = λ e. r.whole refl }

told_cut : (most : ℕ) (left now : Option (List ℕ)) (cut : Bool) → Reads most left now cut → Reads most left now true
told_cut most left now cut r = record { taken = r.taken; few = r.few; rest = r.rest; whole = λ h. true_false h }

-- an answer, or want of memory in its place
pub still_read : (most : ℕ) (left now : Option (List ℕ)) (why told : Why) → Reads most left now (cuts_short why) → ((told ≡ why) ⊎ (told ≡ NoMemory)) → Reads most left now (cuts_short told)
still_read most left now why told r (inl e) = subst (λ w. Reads most left now (cuts_short w)) (sym e) r
still_read most left now why told r (inr e) = subst (λ w. Reads most left now (cuts_short w)) (sym e) (told_cut most left now (cuts_short why) r)
