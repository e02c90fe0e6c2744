-- Which journal has the event that goes first, and what comes of reading it.
use Rattle.std.proofs.Common.{◌≡◌, ℕ, zero, suc, ◌+◌, ◌-◌, ◌<◌, inl, inr, Bool, true, false, cond, List, [], ◌∷◌, ◌++◌, Option, Some, None, refl, sym, ap, ◌∙◌, subst, arith, length, length-set, append_assoc, append-nil, drop, get_or, set, slice_get}
use Rattle.std.specs.Prelude.{replicate, nat_eq}
use Rattle.node_event.specs.declared.event.Event.{Event}
use Rattle.node_event.specs.Journals.{JournalState}
use Rattle.weave.specs.Weaves.{Precedes, MayPrecede}
use Rattle.weave.specs.Merges.{merged, until, comes, is_earlier, woven_from, remaining, next_of, AllRead, IsFirst, IsFirstOf, ReadsFirst}
use Rattle.weave.proofs.Orders.{true_precedes, false_may, precedes_true, precedes_may}

pub next_read : (journals : List JournalState) (next : List ℕ) (k : ℕ) (j : JournalState) → k < length journals → length next ≡ length journals → j ≡ get_or journals k j → next_of journals next k ≡ slice_get j.events (get_or next k 0)
next_read [] next k j l s e = absurd (omega arith)
next_read (i ∷ journals) [] k j l s e = absurd (omega arith)
next_read (i ∷ journals) (n ∷ next) zero j l s e = ap (λ (w : JournalState). slice_get w.events n) (sym e)
next_read (i ∷ journals) (n ∷ next) (suc k) j l s e = next_read journals next k j (omega arith) (omega arith) e

-- ---- the first of one journal more

pub none_more : (journals : List JournalState) (next : List ℕ) (k : ℕ) (first : Option ℕ) → next_of journals next k ≡ None → IsFirstOf journals next k first → IsFirstOf journals next (k + 1) first
none_more journals next k None e a = λ i l. go i l (nat_eq i k) refl
  where
    go : (i : ℕ) → i < k + 1 → (b : Bool) → nat_eq i k ≡ b → next_of journals next i ≡ None
    go i l true t = let s : i ≡ k = grind arith in ap (next_of journals next) s ∙ e
    go i l false t = let l2 : i < k = grind arith in a i l2
none_more journals next k (Some m) e a = record {
  within = let w = a.within in omega arith;
  event = a.event;
  is = a.is;
  before = a.before;
  behind = λ i x l u n. go i x l u n (nat_eq i k) refl;
}
  where
    go : (i : ℕ) (x : Event) → m < i → i < k + 1 → next_of journals next i ≡ Some x → (b : Bool) → nat_eq i k ≡ b → is_earlier x a.event ≡ false
    go i x l u n true t = let s : i ≡ k = grind arith in let z : Some x ≡ None = sym n ∙ (ap (next_of journals next) s ∙ e) in absurd cc
    go i x l u n false t = let l2 : i < k = grind arith in a.behind i x l l2 n

pub only_more : (journals : List JournalState) (next : List ℕ) (k : ℕ) (event : Event) → next_of journals next k ≡ Some event → AllRead journals next k → IsFirst journals next (k + 1) k
only_more journals next k event e a = record {
  within = omega arith;
  event = event;
  is = e;
  before = λ i x l n. let z : Some x ≡ None = sym n ∙ a i l in absurd cc;
  behind = λ i x l u n. absurd (omega arith);
}

pub stays_first : (journals : List JournalState) (next : List ℕ) (k m : ℕ) (event earliest : Event) → next_of journals next k ≡ Some event → next_of journals next m ≡ Some earliest → is_earlier event earliest ≡ false → IsFirst journals next k m → IsFirst journals next (k + 1) m
stays_first journals next k m event earliest e f t a = record {
  within = let w = a.within in omega arith;
  event = a.event;
  is = a.is;
  before = a.before;
  behind = λ i x l u n. go i x l u n (nat_eq i k) refl;
}
  where
    go : (i : ℕ) (x : Event) → m < i → i < k + 1 → next_of journals next i ≡ Some x → (b : Bool) → nat_eq i k ≡ b → is_earlier x a.event ≡ false
    go i x l u n true q =
        let s : i ≡ k = grind arith in
        let z : Some x ≡ Some event = sym n ∙ (ap (next_of journals next) s ∙ e) in
        let y : Some a.event ≡ Some earliest = sym a.is ∙ f in
        let z2 : x ≡ event = cc in
        let y2 : a.event ≡ earliest = cc in
        ap (λ (w : Event). is_earlier w a.event) z2 ∙ (ap (λ (w : Event). is_earlier event w) y2 ∙ t)
    go i x l u n false q = let l2 : i < k = grind arith in a.behind i x l l2 n

pub comes_first : (journals : List JournalState) (next : List ℕ) (k m : ℕ) (event earliest : Event) → next_of journals next k ≡ Some event → next_of journals next m ≡ Some earliest → is_earlier event earliest ≡ true → IsFirst journals next k m → IsFirst journals next (k + 1) k
comes_first journals next k m event earliest e f t a = record {
  within = omega arith;
  event = event;
  is = e;
  before = before;
  behind = λ i x l u n. absurd (omega arith);
}
  where
    same : a.event ≡ earliest
    same = let y : Some a.event ≡ Some earliest = sym a.is ∙ f in cc

    low : Precedes event a.event
    low = subst (Precedes event) (sym same) (true_precedes event earliest t)

    before : (i : ℕ) (x : Event) → i < k → next_of journals next i ≡ Some x → is_earlier event x ≡ true
    before i x l n = go (Rattle.std.specs.Prelude.nat_lt i m) (nat_eq i m) refl refl
      where
        go : (b c : Bool) → Rattle.std.specs.Prelude.nat_lt i m ≡ b → nat_eq i m ≡ c → is_earlier event x ≡ true
        go true c p q = let l2 : i < m = grind arith in precedes_true event x (precedes_may event a.event x low (inl_or (true_precedes a.event x (a.before i x l2 n))))
          where
            inl_or : Precedes a.event x → MayPrecede a.event x
            inl_or (inl h) = inl h
            inl_or (inr h) = inr (h.0, let h1 = h.1 in omega arith)
        go false true p q = let s : i ≡ m = grind arith in let z : Some x ≡ Some a.event = sym n ∙ (ap (next_of journals next) s ∙ a.is) in let z2 : x ≡ a.event = cc in precedes_true event x (subst (Precedes event) (sym z2) low)
        go false false p q = let l2 : m < i = grind arith in precedes_true event x (precedes_may event a.event x low (false_may x a.event (a.behind i x l2 l n)))

-- ---- reading it

get_drop : (xs : List Event) (n : ℕ) (e : Event) → slice_get xs n ≡ Some e → drop n xs ≡ e ∷ drop (n + 1) xs
get_drop [] n e g = absurd cc
get_drop (x ∷ xs) zero e g = let s : x ≡ e = cc in ap (λ (w : Event). w ∷ xs) s
get_drop (x ∷ xs) (suc n) e g = let s : suc n + 1 ≡ suc (n + 1) = omega arith in get_drop xs n e g ∙ ap (λ (w : ℕ). e ∷ drop w (x ∷ xs)) (sym s)

none_drop : (xs : List Event) (n : ℕ) → slice_get xs n ≡ None → drop n xs ≡ []
none_drop [] zero g = refl
none_drop [] (suc n) g = refl
none_drop (x ∷ xs) zero g = absurd cc
none_drop (x ∷ xs) (suc n) g = none_drop xs n g

-- e goes before the first of a list, where there is one
abbrev Leads : Event → List Event → Type 0
Leads e [] = Unit {0}
Leads e (x ∷ xs) = is_earlier e x ≡ true

leads_drop : (e : Event) (xs : List Event) (n : ℕ) → ((x : Event) → slice_get xs n ≡ Some x → is_earlier e x ≡ true) → Leads e (drop n xs)
leads_drop e [] zero h = tt
leads_drop e [] (suc n) h = tt
leads_drop e (x ∷ xs) zero h = h x refl
leads_drop e (x ∷ xs) (suc n) h = leads_drop e xs n h

comes_drop : (e : Event) (xs : List Event) (n : ℕ) → ((x : Event) → slice_get xs n ≡ Some x → is_earlier x e ≡ false) → comes e (drop n xs) ≡ false
comes_drop e [] zero h = refl
comes_drop e [] (suc n) h = refl
comes_drop e (x ∷ xs) zero h = h x refl
comes_drop e (x ∷ xs) (suc n) h = comes_drop e xs n h

leads_merged : (e : Event) (xs ys : List Event) → Leads e xs → Leads e ys → Leads e (merged xs ys)
leads_merged e [] ys p q = q
leads_merged e (x ∷ xs) [] p q = p
leads_merged e (x ∷ xs) (y ∷ ys) p q = go (is_earlier y x)
  where
    go : (b : Bool) → Leads e (cond b (y ∷ until x (λ zs. merged xs zs) ys) (x ∷ merged xs (y ∷ ys)))
    go true = q
    go false = p

-- what leads a list is merged first
merged_leads : (e : Event) (xs ys : List Event) → Leads e xs → merged xs (e ∷ ys) ≡ e ∷ merged xs ys
merged_leads e [] ys p = refl
merged_leads e (x ∷ xs) ys p = ap (λ (b : Bool). cond b (e ∷ until x (λ zs. merged xs zs) ys) (x ∷ merged xs (e ∷ ys))) p

merged_front : (e : Event) (xs ys : List Event) → comes e ys ≡ false → merged (e ∷ xs) ys ≡ e ∷ merged xs ys
merged_front e xs [] c = refl
merged_front e xs (y ∷ ys) c = ap (λ (b : Bool). cond b (y ∷ until e (λ zs. merged xs zs) ys) (e ∷ merged xs (y ∷ ys))) c

woven_front : (e : Event) (woven : List Event) (journals : List JournalState) (next : List ℕ) → ((i : ℕ) (x : Event) → i < length journals → next_of journals next i ≡ Some x → is_earlier x e ≡ false) → woven_from (e ∷ woven) (remaining journals next) ≡ e ∷ woven_from woven (remaining journals next)
woven_front e woven [] next h = refl
woven_front e woven (j ∷ journals) [] h = refl
woven_front e woven (j ∷ journals) (n ∷ next) h =
    ap (λ (w : List Event). woven_from w (remaining journals next)) (merged_front e woven (drop n j.events) (comes_drop e j.events n (λ x g. h 0 x (omega arith) g)))
    ∙ woven_front e (merged woven (drop n j.events)) journals next (λ i x l g. h (suc i) x (omega arith) g)

-- one more of a journal was read
bumped : List ℕ → ℕ → List ℕ
bumped next k = set next k (get_or next k 0 + 1)

woven_step : (woven : List Event) (journals : List JournalState) (next : List ℕ) (k : ℕ) (e : Event) → Leads e woven → next_of journals next k ≡ Some e → ((i : ℕ) (x : Event) → i < k → next_of journals next i ≡ Some x → is_earlier e x ≡ true) → ((i : ℕ) (x : Event) → k < i → i < length journals → next_of journals next i ≡ Some x → is_earlier x e ≡ false) → woven_from woven (remaining journals next) ≡ e ∷ woven_from woven (remaining journals (set next k (get_or next k 0 + 1)))
woven_step woven [] next k e p g b h = absurd cc
woven_step woven (j ∷ journals) [] k e p g b h = absurd cc
woven_step woven (j ∷ journals) (n ∷ next) zero e p g b h =
    ap (λ (w : List Event). woven_from (merged woven w) (remaining journals next)) (get_drop j.events n e g)
    ∙ (ap (λ (w : List Event). woven_from w (remaining journals next)) (merged_leads e woven (drop (n + 1) j.events) p)
    ∙ woven_front e (merged woven (drop (n + 1) j.events)) journals next (λ i x l f. h (suc i) x (omega arith) (omega arith) f))
woven_step woven (j ∷ journals) (n ∷ next) (suc k) e p g b h =
    woven_step (merged woven (drop n j.events)) journals next k e
    (leads_merged e woven (drop n j.events) p (leads_drop e j.events n (λ x f. b 0 x (omega arith) f)))
    g (λ i x l f. b (suc i) x (omega arith) f) (λ i x l u f. h (suc i) x (omega arith) (omega arith) f)

pub read_one : (all m : List Event) (journals : List JournalState) (next : List ℕ) (k : ℕ) (e : Event) → IsFirst journals next (length journals) k → next_of journals next k ≡ Some e → all ++ woven_from [] (remaining journals next) ≡ m → (all ++ e ∷ []) ++ woven_from [] (remaining journals (set next k (get_or next k 0 + 1))) ≡ m
read_one all m journals next k e a g h =
    let y : Some a.event ≡ Some e = sym a.is ∙ g in
    let s : a.event ≡ e = cc in
    let w = woven_from [] (remaining journals (set next k (get_or next k 0 + 1))) in
    append_assoc all (e ∷ []) w
    ∙ (ap (λ (x : Event). all ++ x ∷ w) (sym s)
    ∙ (ap (λ (x : List Event). all ++ x) (sym (woven_step [] journals next k a.event tt a.is a.before a.behind)) ∙ h))

none_woven : (journals : List JournalState) (next : List ℕ) → AllRead journals next (length journals) → woven_from [] (remaining journals next) ≡ []
none_woven [] next a = refl
none_woven (j ∷ journals) [] a = refl
none_woven (j ∷ journals) (n ∷ next) a =
    ap (λ (w : List Event). woven_from w (remaining journals next)) (none_drop j.events n (a 0 (omega arith)))
    ∙ none_woven journals next (λ i l. a (suc i) (omega arith))

pub read_all : (all m : List Event) (journals : List JournalState) (next : List ℕ) → AllRead journals next (length journals) → all ++ woven_from [] (remaining journals next) ≡ m → all ≡ m
read_all all m journals next a h = sym (append-nil all) ∙ (ap (λ (w : List Event). all ++ w) (sym (none_woven journals next a)) ∙ h)

pub remaining_first : (journals : List JournalState) → remaining journals (replicate (length journals) 0) ≡ journals
remaining_first [] = refl
remaining_first (j ∷ journals) = ap (λ (w : List JournalState). j ∷ w) (remaining_first journals)

-- how many events are not read yet
abbrev pub unread : List JournalState → List ℕ → ℕ
unread [] next = 0
unread (j ∷ journals) [] = 0
unread (j ∷ journals) (n ∷ next) = (length j.events - n) + unread journals next

get_below : (xs : List Event) (n : ℕ) (e : Event) → slice_get xs n ≡ Some e → n < length xs
get_below [] n e g = absurd cc
get_below (x ∷ xs) zero e g = omega arith
get_below (x ∷ xs) (suc n) e g = let r = get_below xs n e g in omega arith

pub unread_less : (journals : List JournalState) (next : List ℕ) (k : ℕ) (e : Event) → next_of journals next k ≡ Some e → unread journals (set next k (get_or next k 0 + 1)) < unread journals next
unread_less [] next k e g = absurd cc
unread_less (j ∷ journals) [] k e g = absurd cc
unread_less (j ∷ journals) (n ∷ next) zero e g = let l = get_below j.events n e g in omega arith
unread_less (j ∷ journals) (n ∷ next) (suc k) e g = let r = unread_less journals next k e g in omega arith

-- ---- one event more

pub first_below : (journals : List JournalState) (next : List ℕ) (k : ℕ) (j : JournalState) → j ≡ get_or journals k j → IsFirst journals next (length journals) k → length next ≡ length journals → get_or next k 0 < length j.events
first_below journals next k j e f s = get_below j.events (get_or next k 0) f.event (sym (next_read journals next k j f.within s e) ∙ f.is)

some_get : (xs : List Event) (n : ℕ) (d : Event) → n < length xs → slice_get xs n ≡ Some (get_or xs n d)
some_get [] n d l = absurd (omega arith)
some_get (x ∷ xs) zero d l = refl
some_get (x ∷ xs) (suc n) d l = some_get xs n d (omega arith)

pub first_event : (journals : List JournalState) (next : List ℕ) (k : ℕ) (j : JournalState) (d : Event) → j ≡ get_or journals k j → IsFirst journals next (length journals) k → length next ≡ length journals → next_of journals next k ≡ Some (get_or j.events (get_or next k 0) d)
first_event journals next k j d e f s = next_read journals next k j f.within s e ∙ some_get j.events (get_or next k 0) d (first_below journals next k j e f s)

pub one_read : (all m : List Event) (journals : List JournalState) (old new : List ℕ) (e : Event) → ReadsFirst journals old new e → all ++ woven_from [] (remaining journals old) ≡ m → (all ++ e ∷ []) ++ woven_from [] (remaining journals new) ≡ m
one_read all m journals old new e r h = ap (λ (w : List ℕ). (all ++ e ∷ []) ++ woven_from [] (remaining journals w)) r.places ∙ read_one all m journals old r.k e r.first r.is h

pub less_unread : (journals : List JournalState) (old new : List ℕ) (e : Event) → ReadsFirst journals old new e → unread journals new < unread journals old
less_unread journals old new e r = let l = unread_less journals old r.k e r.is in let s : unread journals new ≡ unread journals (set old r.k (get_or old r.k 0 + 1)) = ap (unread journals) r.places in omega arith

pub same_length : (journals : List JournalState) (old new : List ℕ) (e : Event) → ReadsFirst journals old new e → length old ≡ length journals → length new ≡ length journals
same_length journals old new e r s = ap length r.places ∙ (length-set old r.k (get_or old r.k 0 + 1) ∙ s)

pub none_read : (all : List Event) (journals : List JournalState) (next : List ℕ) → all ≡ [] → next ≡ replicate (length journals) 0 → all ++ woven_from [] (remaining journals next) ≡ woven_from [] journals
none_read all journals next e z = ap (λ (w : List Event). w ++ woven_from [] (remaining journals next)) e ∙ ap (woven_from []) (ap (remaining journals) z ∙ remaining_first journals)
