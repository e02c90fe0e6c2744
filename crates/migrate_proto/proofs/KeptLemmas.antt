-- What a list of reservations says of the map that it is seen as.
use Rattle.std.proofs.Common.{◌≡◌, ℕ, ◌+◌, ◌-◌, ◌<◌, ◌≤◌, ◌==◌, cond, true, false, Option, Some, None, [], ◌∷◌, ◌++◌, refl, sym, ap, subst, ◌∙◌, arith, length, get_or, length-append}
use Rattle.std.proofs.lemmas.Bool.{lt-ltb, le-ltb}
use Rattle.std.proofs.lemmas.List.Edits.{length-remove}
use Rattle.std.proofs.lemmas.List.Sums.{sum_by_push, sum_by-remove}
use Rattle.std.specs.List.{sum_by, position, remove}
use Rattle.std.specs.Option.{unwrap_or, is_some, IsNone}
use Rattle.std.specs.FinMap as map
use Rattle.migrate_proto.specs.declared.reserve.Decision.TheVariants.{Allow, Deny}
use Rattle.migrate_proto.specs.Reservations.{Apart, IsKept, reserved_pages, decision}
use Rattle.migrate_proto.proofs.MapLemmas.{Entries, Map, found, pages_of, found_there, apart_removed, apart_pushed, got, inserted, landed, not_landed, counted, summed, at_place, placed}
use Rattle.call_table.specs.declared.limit.TheConstants.{PROCESSES}

pub denied : (need free f : ℕ) → free ≡ f → free < need → Deny need free ≡ decision need f
denied need free f e less = ap (λ b. cond b (Deny need free) Allow) (sym (lt-ltb free need less)) ∙ ap (decision need) e

pub allowed : (need free f : ℕ) → free ≡ f → need ≤ free → Allow ≡ decision need f
allowed need free f e le = ap (λ b. cond b (Deny need free) Allow) (sym (le-ltb free need le)) ∙ ap (decision need) e

none_of : (o : Option ℕ) → IsNone o → o ≡ None
none_of None e = refl
none_of (Some x) e = absurd (cc)

module _ (es : Entries) (m : Map) (cap total : ℕ) (is : map.from_entries es ≡ m) (k : IsKept es cap total) where
  pub total_is : total ≡ reserved_pages m
  total_is = k.pages ∙ (sym (summed es k.apart) ∙ ap reserved_pages is)

  pub len_is : map.len m ≡ length es
  len_is = ap (λ (n : Map). map.len n) (sym is) ∙ counted es k.apart

  pub got_is : (pid : ℕ) → map.get m pid ≡ found pid es
  got_is pid = ap (λ (n : Map). map.get n pid) (sym is) ∙ got es pid

  pub placed_is : (pid : ℕ) (o : Option ℕ) → o ≡ position (λ e. e.0 == pid) es → is_some o ≡ is_some (map.get m pid)
  placed_is pid o e = placed es pid o k.apart e ∙ ap is_some (sym (got_is pid))

  -- a reservation more
  module _ (pid need : ℕ) (fresh : IsNone (map.get m pid)) (room : map.len m < PROCESSES) (new : Entries) (e : new ≡ es ++ (pid, need) ∷ []) where
    none : found pid es ≡ None
    none = sym (got_is pid) ∙ none_of (map.get m pid) fresh

    pub pushed_kept : (more : ℕ) → more ≡ cap → IsKept new more (total + need)
    pushed_kept more c = record {
      apart = subst Apart (sym e) (apart_pushed es pid need k.apart none);
      few = omega (arith, ap length e, length-append es ((pid, need) ∷ []), len_is, room);
      room = omega (arith, c, k.room);
      pages = ap (λ (n : ℕ). n + need) k.pages ∙ (sym (sum_by_push pages_of es (pid, need)) ∙ ap (sum_by pages_of) (sym e));
    }

    pub pushed_map : map.from_entries new ≡ map.insert m pid need
    pushed_map = ap map.from_entries e ∙ (inserted es pid need none ∙ ap (λ (n : Map). map.insert n pid need) is)

    pub pushed_pages : reserved_pages (map.from_entries new) ≡ reserved_pages m + need
    pushed_pages = summed new (subst Apart (sym e) (apart_pushed es pid need k.apart none)) ∙ (ap (sum_by pages_of) e ∙ (sum_by_push pages_of es (pid, need) ∙ ap (λ (n : ℕ). n + need) (sym k.pages ∙ total_is)))

  -- a reservation less
  module _ (pid i : ℕ) (r : ℕ × ℕ) (at : Some i ≡ position (λ e. e.0 == pid) es) (value : r ≡ get_or es i r) where
    here : (i < length es) × ((get_or es i r).0 ≡ pid)
    here = at_place pid es i r at

    less_sum : sum_by pages_of (remove es i) + r.1 ≡ sum_by pages_of es
    less_sum = ap (λ (n : ℕ). sum_by pages_of (remove es i) + n) (ap pages_of value) ∙ sum_by-remove pages_of es i r here.0

    pub pages_within : r.1 ≤ total
    pages_within = omega (arith, less_sum, k.pages)

    pub gone_kept : (new : Entries) → new ≡ remove es i → (less : ℕ) → less ≡ cap → IsKept new less (total - r.1)
    gone_kept new e less c = record {
      apart = subst Apart (sym e) (apart_removed es i pid r k.apart here.0 here.1);
      few = omega (arith, ap length e, length-remove es i here.0, k.few);
      room = omega (arith, c, k.room);
      pages = omega (arith, less_sum, k.pages, ap (sum_by pages_of) e);
    }

    pub gone_had : is_some (map.get m pid) ≡ true
    gone_had = sym (placed_is pid (Some i) at)

    pub gone_map : (new : Entries) → new ≡ remove es i → map.from_entries new ≡ map.remove m pid
    gone_map new e = ap map.from_entries e ∙ (landed es i pid r k.apart here.0 here.1 ∙ ap (λ (n : Map). map.remove n pid) is)

    reserved_there : unwrap_or (map.get m pid) 0 ≡ r.1
    reserved_there = ap (λ (o : Option ℕ). unwrap_or o 0) (got_is pid ∙ found_there es i pid r k.apart here.0 here.1) ∙ sym (ap pages_of value)

    pub gone_pages : (new : Entries) → new ≡ remove es i → reserved_pages (map.from_entries new) + unwrap_or (map.get m pid) 0 ≡ reserved_pages m
    gone_pages new e =
        let a : reserved_pages (map.from_entries new) ≡ sum_by pages_of (remove es i) = summed new (subst Apart (sym e) (apart_removed es i pid r k.apart here.0 here.1)) ∙ ap (sum_by pages_of) e in
        omega (arith, a, reserved_there, less_sum, k.pages, total_is)

  -- a pid without a reservation
  module _ (pid : ℕ) (at : None ≡ position (λ e. e.0 == pid) es) where
    absent : found pid es ≡ None
    absent = sym (got_is pid) ∙ none_of (map.get m pid) (sym (placed_is pid None at))

    pub none_had : is_some (map.get m pid) ≡ false
    none_had = sym (placed_is pid None at)

    pub none_map : m ≡ map.remove m pid
    none_map = sym is ∙ (not_landed es pid absent ∙ ap (λ (n : Map). map.remove n pid) is)

    pub none_pages : reserved_pages m + unwrap_or (map.get m pid) 0 ≡ reserved_pages m
    none_pages = omega (arith, ap (λ (o : Option ℕ). unwrap_or o 0) (none_of (map.get m pid) none_had))
