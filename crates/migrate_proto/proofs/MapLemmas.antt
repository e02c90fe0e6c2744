-- A list of reservations in which no pid stands twice, and the map of it.
use Rattle.std.proofs.Common.{◌≡◌, ◌≢◌, ℕ, zero, suc, ◌+◌, ◌<◌, ◌≤◌, ◌==◌, Bool, true, false, cond, Option, Some, None, List, [], ◌∷◌, ◌++◌, ◌⊎◌, inl, inr, refl, sym, ap, ◌∙◌, arith, length, get_or}
use Rattle.std.proofs.lemmas.Bool.{cases_eq, cases_Bool, eq-eqb, ne_eqb, eqb-true, ltb-false}
use Rattle.std.proofs.lemmas.List.Quantifiers.{position-Some}
use Rattle.std.proofs.lemmas.List.Sums.{sum_by-cons}
use Rattle.std.specs.List.{sum_by, position, position_or_len, remove}
use Rattle.std.specs.Prelude.{nat_lt}
use Rattle.std.specs.Option.{is_some}
use Rattle.std.specs.Ordering.{nat_cmp, eq_by_cmp}
use Rattle.std.specs.Cmp.{nat_cmp_total, ranked, unsigned_tied}
use Rattle.std.specs.FinMap as map
use Rattle.std.specs.FinMap.{put, get-entries, len-entries, nat_cmp-IsAntisymmetric, get-from_entries, get-remove, same_map, len-insert, len-empty, entries-insert, from_entries_push}
use Rattle.std.specs.FinMap.Entries.{by_order}
use Rattle.std.specs.declared.cmp.Ordering.{Ordering}
use Rattle.std.specs.declared.cmp.Ordering.TheVariants.{Less, Equal, Greater}
use Rattle.migrate_proto.specs.Reservations.{Apart, reserved_pages}

abbrev pub Entries : Type 0
Entries = List (ℕ × ℕ)

abbrev pub Map : Type 0
Map = map.FinMap nat_cmp ℕ

abbrev pub found : ℕ → Entries → Option ℕ
found q es = map.find nat_cmp q es

abbrev pub pages_of : ℕ × ℕ → ℕ
pages_of e = e.1

tied : (q k : ℕ) → q ≡ k → eq_by_cmp nat_cmp q k ≡ true
tied q k e = unsigned_tied q k ∙ eq-eqb q k e

untied : (q k : ℕ) → q ≢ k → eq_by_cmp nat_cmp q k ≡ false
untied q k off = unsigned_tied q k ∙ ne_eqb q k off

-- ---- what is found in a list

found_head : (q : ℕ) (x : ℕ × ℕ) (es : Entries) → q ≡ x.0 → found q (x ∷ es) ≡ Some x.1
found_head q x es e = ap (λ b. cond b (Some x.1) (found q es)) (tied q x.0 e)

found_tail : (q : ℕ) (x : ℕ × ℕ) (es : Entries) → q ≢ x.0 → found q (x ∷ es) ≡ found q es
found_tail q x es off = ap (λ b. cond b (Some x.1) (found q es)) (untied q x.0 off)

-- at a place where the pid stands something is found
stands : (es : Entries) (i pid : ℕ) (d : ℕ × ℕ) → i < length es → (get_or es i d).0 ≡ pid → found pid es ≡ None → ⊥
stands [] i pid d less e none = absurd (omega arith)
stands (x ∷ es) zero pid d less e none = let f : Some x.1 ≡ None = sym (found_head pid x es (sym e)) ∙ none in cc
stands (x ∷ es) (suc i) pid d less e none = go (cases_eq pid x.0) (λ n. stands es i pid d (omega arith) e n)
  where
    go : (pid ≡ x.0) ⊎ (pid ≢ x.0) → (found pid es ≡ None → ⊥) → ⊥
    go (inl s) rest = let f : Some x.1 ≡ None = sym (found_head pid x es s) ∙ none in cc
    go (inr off) rest = rest (sym (found_tail pid x es off) ∙ none)

-- and it is what stands there
pub found_there : (es : Entries) (i pid : ℕ) (d : ℕ × ℕ) → Apart es → i < length es → (get_or es i d).0 ≡ pid → found pid es ≡ Some (get_or es i d).1
found_there [] i pid d a less e = absurd (omega arith)
found_there (x ∷ es) zero pid d a less e = found_head pid x es (sym e)
found_there (x ∷ es) (suc i) pid d a less e = go (cases_eq pid x.0) (found_there es i pid d a.1 (omega arith) e)
  where
    go : (pid ≡ x.0) ⊎ (pid ≢ x.0) → found pid es ≡ Some (get_or es i d).1 → found pid (x ∷ es) ≡ Some (get_or es i d).1
    go (inl s) rest = absurd (stands es i pid d (omega arith) e (ap (λ (k : ℕ). found k es) s ∙ a.0))
    go (inr off) rest = found_tail pid x es off ∙ rest

abbrev without : ℕ → ℕ → Entries → Option ℕ
without pid q es = cond (eq_by_cmp nat_cmp q pid) None (found q es)

removed_head : (x : ℕ × ℕ) (es : Entries) (pid q : ℕ) → found x.0 es ≡ None → x.0 ≡ pid → found q es ≡ without pid q (x ∷ es)
removed_head x es pid q none e = go (cases_eq q pid)
  where
    go : (q ≡ pid) ⊎ (q ≢ pid) → found q es ≡ without pid q (x ∷ es)
    go (inl s) = ap (λ (k : ℕ). found k es) (s ∙ sym e) ∙ (none ∙ sym (ap (λ b. cond b None (found q (x ∷ es))) (tied q pid s)))
    go (inr off) = let far : q ≢ x.0 = λ s. off (s ∙ e) in sym (found_tail q x es far) ∙ sym (ap (λ b. cond b None (found q (x ∷ es))) (untied q pid off))

removed_tail : (x : ℕ × ℕ) (es fs : Entries) (pid q : ℕ) → x.0 ≢ pid → found q fs ≡ without pid q es → found q (x ∷ fs) ≡ without pid q (x ∷ es)
removed_tail x es fs pid q off is = go (cases_eq q x.0)
  where
    go : (q ≡ x.0) ⊎ (q ≢ x.0) → found q (x ∷ fs) ≡ without pid q (x ∷ es)
    go (inl s) = let far : q ≢ pid = λ t. off (sym s ∙ t) in found_head q x fs s ∙ (sym (found_head q x es s) ∙ sym (ap (λ b. cond b None (found q (x ∷ es))) (untied q pid far)))
    go (inr far) = found_tail q x fs far ∙ (is ∙ ap (λ (o : Option ℕ). cond (eq_by_cmp nat_cmp q pid) None o) (sym (found_tail q x es far)))

-- without the place at which a pid stands the pid is gone, and nothing else
removed : (es : Entries) (i pid : ℕ) (d : ℕ × ℕ) → Apart es → i < length es → (get_or es i d).0 ≡ pid → (q : ℕ) → found q (remove es i) ≡ without pid q es
removed [] i pid d a less e q = absurd (omega arith)
removed (x ∷ es) zero pid d a less e q = removed_head x es pid q a.0 e
removed (x ∷ es) (suc i) pid d a less e q =
    let off : x.0 ≢ pid = λ s. stands es i pid d (omega arith) e (ap (λ (k : ℕ). found k es) (sym s) ∙ a.0) in
    removed_tail x es (remove es i) pid q off (removed es i pid d a.1 (omega arith) e q)

none_without : (b : Bool) (o : Option ℕ) → o ≡ None → cond b None o ≡ None
none_without true o e = refl
none_without false o e = e

pub apart_removed : (es : Entries) (i pid : ℕ) (d : ℕ × ℕ) → Apart es → i < length es → (get_or es i d).0 ≡ pid → Apart (remove es i)
apart_removed [] i pid d a less e = absurd (omega arith)
apart_removed (x ∷ es) zero pid d a less e = a.1
apart_removed (x ∷ es) (suc i) pid d a less e =
    (removed es i pid d a.1 (omega arith) e x.0 ∙ none_without (eq_by_cmp nat_cmp x.0 pid) (found x.0 es) a.0, apart_removed es i pid d a.1 (omega arith) e)

found_other : (es : Entries) (pid pages q : ℕ) → q ≢ pid → found q (es ++ (pid, pages) ∷ []) ≡ found q es
found_other [] pid pages q off = found_tail q (pid, pages) [] off
found_other (x ∷ es) pid pages q off = ap (λ (o : Option ℕ). cond (eq_by_cmp nat_cmp q x.0) (Some x.1) o) (found_other es pid pages q off)

pub apart_pushed : (es : Entries) (pid pages : ℕ) → Apart es → found pid es ≡ None → Apart (es ++ (pid, pages) ∷ [])
apart_pushed [] pid pages a none = (refl, tt)
apart_pushed (x ∷ es) pid pages a none = (found_other es pid pages x.0 far ∙ a.0, apart_pushed es pid pages a.1 tail)
  where
    off : pid ≡ x.0 → ⊥
    off s = let f : Some x.1 ≡ None = sym (found_head pid x es s) ∙ none in cc

    far : x.0 ≡ pid → ⊥
    far s = off (sym s)

    tail : found pid es ≡ None
    tail = sym (found_tail pid x es off) ∙ none

-- ---- the map of a list

pub got : (es : Entries) (q : ℕ) → map.get (map.from_entries {R = nat_cmp} es) q ≡ found q es
got es q = get-from_entries nat_cmp_total es q

pub inserted : (es : Entries) (pid pages : ℕ) → found pid es ≡ None → map.from_entries {R = nat_cmp} (es ++ (pid, pages) ∷ []) ≡ map.insert (map.from_entries es) pid pages
inserted es pid pages none = from_entries_push nat_cmp_total nat_cmp-IsAntisymmetric es pid pages none

pub landed : (es : Entries) (i pid : ℕ) (d : ℕ × ℕ) → Apart es → i < length es → (get_or es i d).0 ≡ pid → map.from_entries {R = nat_cmp} (remove es i) ≡ map.remove (map.from_entries es) pid
landed es i pid d a less e = same_map nat_cmp_total nat_cmp-IsAntisymmetric _ _
    (λ q. got (remove es i) q ∙ (removed es i pid d a less e q ∙ sym (get-remove nat_cmp_total (map.from_entries es) pid q ∙ ap (λ (o : Option ℕ). cond (eq_by_cmp nat_cmp q pid) None o) (got es q))))

absent : (es : Entries) (pid q : ℕ) → found pid es ≡ None → without pid q es ≡ found q es
absent es pid q none = go (cases_eq q pid)
  where
    go : (q ≡ pid) ⊎ (q ≢ pid) → without pid q es ≡ found q es
    go (inl s) = ap (λ b. cond b None (found q es)) (tied q pid s) ∙ sym (ap (λ (k : ℕ). found k es) s ∙ none)
    go (inr off) = ap (λ b. cond b None (found q es)) (untied q pid off)

pub not_landed : (es : Entries) (pid : ℕ) → found pid es ≡ None → map.from_entries {R = nat_cmp} es ≡ map.remove (map.from_entries es) pid
not_landed es pid none = same_map nat_cmp_total nat_cmp-IsAntisymmetric _ _
    (λ q. got es q ∙ (sym (absent es pid q none) ∙ sym (get-remove nat_cmp_total (map.from_entries es) pid q ∙ ap (λ (o : Option ℕ). cond (eq_by_cmp nat_cmp q pid) None o) (got es q))))

-- ---- how many there are, and their pages

one_more : (b : Bool) (n : ℕ) → b ≡ false → cond b n (n + 1) ≡ n + 1
one_more true n e = cc
one_more false n e = refl

pub counted : (es : Entries) → Apart es → map.len (map.from_entries {R = nat_cmp} es) ≡ length es
counted [] a = len-empty nat_cmp ℕ
counted (x ∷ es) a =
    let none : map.get (map.from_entries {R = nat_cmp} es) x.0 ≡ None = got es x.0 ∙ a.0 in
    let len : map.len (map.from_entries {R = nat_cmp} es) ≡ length es = counted es a.1 in
    len-insert nat_cmp_total (map.from_entries es) x.0 x.1 ∙ (one_more (is_some (map.get (map.from_entries {R = nat_cmp} es) x.0)) _ (ap is_some none) ∙ omega arith)

none_long : (es : Entries) → length es ≡ 0 → es ≡ []
none_long [] e = refl
none_long (x ∷ es) e = absurd (omega arith)

nothing : map.entries (map.empty {X = ℕ} {R = nat_cmp}) ≡ []
nothing = none_long _ (sym (len-entries (map.empty {X = ℕ} {R = nat_cmp})) ∙ len-empty nat_cmp ℕ)

sum_put : (k v : ℕ) (es : Entries) → found k es ≡ None → sum_by pages_of (put nat_cmp k v es) ≡ v + sum_by pages_of es
sum_put k v [] none = sum_by-cons pages_of (k, v) []
sum_put k v (x ∷ es) none = go (nat_cmp k x.0) refl (λ n. sum_put k v es n)
  where
    off : k ≡ x.0 → ⊥
    off s = let f : Some x.1 ≡ None = sym (found_head k x es s) ∙ none in cc

    go : (r : Ordering) → r ≡ nat_cmp k x.0 → (found k es ≡ None → sum_by pages_of (put nat_cmp k v es) ≡ v + sum_by pages_of es) → sum_by pages_of (by_order r ((k, v) ∷ x ∷ es) ((x.0, v) ∷ es) (x ∷ put nat_cmp k v es)) ≡ v + sum_by pages_of (x ∷ es)
    go Less e rest = sum_by-cons pages_of (k, v) (x ∷ es)
    go Equal e rest = absurd (off (ranked k x.0 Equal e))
    go Greater e rest = omega (arith, sum_by-cons pages_of x (put nat_cmp k v es), sum_by-cons pages_of x es, rest (sym (found_tail k x es off) ∙ none))

pub summed : (es : Entries) → Apart es → reserved_pages (map.from_entries es) ≡ sum_by pages_of es
summed [] a = ap (sum_by pages_of) nothing
summed (x ∷ es) a =
    let none : found x.0 (map.entries (map.from_entries {R = nat_cmp} es)) ≡ None = sym (get-entries (map.from_entries {R = nat_cmp} es) x.0) ∙ (got es x.0 ∙ a.0) in
    ap (sum_by pages_of) (entries-insert nat_cmp_total (map.from_entries es) x.0 x.1)
    ∙ (sum_put x.0 x.1 (map.entries (map.from_entries es)) none ∙ (ap (λ (n : ℕ). x.1 + n) (summed es a.1) ∙ sym (sum_by-cons pages_of x es)))

-- ---- where a pid stands

short : (pid : ℕ) (es : Entries) → length es ≤ position_or_len (λ e. e.0 == pid) es → found pid es ≡ None
short pid [] le = refl
short pid (x ∷ es) le = go (cases_eq x.0 pid) (cases_Bool (x.0 == pid)) (λ n. short pid es n)
  where
    go : (x.0 ≡ pid) ⊎ (x.0 ≢ pid) → ((x.0 == pid) ≡ true) ⊎ ((x.0 == pid) ≡ false) → (length es ≤ position_or_len (λ e. e.0 == pid) es → found pid es ≡ None) → found pid (x ∷ es) ≡ None
    go u (inl t) rest = absurd (let z : position_or_len (λ e. e.0 == pid) (x ∷ es) ≡ 0 = rw t refl in omega (arith, z, le))
    go (inl s) (inr t) rest = absurd (let z : (x.0 == pid) ≡ true = eq-eqb x.0 pid s in cc)
    go (inr off) (inr t) rest =
        let z : position_or_len (λ e. e.0 == pid) (x ∷ es) ≡ 1 + position_or_len (λ e. e.0 == pid) es = rw t refl in
        found_tail pid x es (λ s. off (sym s)) ∙ rest (omega (arith, z, le))

missed : (pid : ℕ) (es : Entries) → None ≡ position (λ e. e.0 == pid) es → found pid es ≡ None
missed pid es e = elim (cases_Bool (nat_lt (position_or_len (λ e. e.0 == pid) es) (length es))) [
  | inl t ↦ let f : ◌≡◌ {A = Option ℕ} None (Some (position_or_len (λ e. e.0 == pid) es)) = e ∙ rw t refl in absurd (cc)
  | inr t ↦ short pid es (ltb-false _ _ t)
]

-- what stands at the place that was found
pub at_place : (pid : ℕ) (es : Entries) (i : ℕ) (d : ℕ × ℕ) → Some i ≡ position (λ e. e.0 == pid) es → (i < length es) × ((get_or es i d).0 ≡ pid)
at_place pid es i d e = let p = position-Some (λ (e : ℕ × ℕ). e.0 == pid) es i d (sym e) in (p.0, eqb-true _ _ p.1)

pub placed : (es : Entries) (pid : ℕ) (o : Option ℕ) → Apart es → o ≡ position (λ e. e.0 == pid) es → is_some o ≡ is_some (found pid es)
placed es pid None a e = ap is_some (sym (missed pid es e))
placed es pid (Some i) a e = let p = at_place pid es i (0, 0) e in ap is_some (sym (found_there es i pid (0, 0) a p.0 p.1))
