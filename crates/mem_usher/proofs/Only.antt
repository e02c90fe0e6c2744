-- There is one best choice, and none where a member is missing.
use Rattle.std.proofs.Common.{◌≡◌, ℕ, ◌+◌, ◌<◌, ◌≤◌, inl, inr, Bool, true, false, cond, nat_le, nat_lt, List, [], ◌∷◌, Option, Some, None, IfSome, IfNone, refl, sym, ap, ◌∙◌, subst, arith}
use Rattle.std.specs.Bool.{MatchBool}
use Rattle.call_table.specs.declared.process.Entry.{Entry}
use Rattle.mem_usher.specs.declared.sight.Sight.{Sight}
use Rattle.mem_usher.specs.declared.sight.Choice.{Choice}
use Rattle.mem_usher.specs.Best.{IsBest, Movable, is_smaller, is_larger, is_tighter, is_lighter, covering, roomy}
use Rattle.mem_usher.specs.Choices.{IsLeaving, IsUshering, IsBalancing, IsBestChoice, reserve_of, shortage_of}
use Rattle.mem_usher.proofs.Bests.{best_only, none_best}

-- no process covers less than nothing
pub covering_zero : (movable : List Movable) → covering 0 movable ≡ movable
covering_zero [] = refl
covering_zero (p ∷ movable) =
    let t : nat_le 0 p.1 ≡ true = grind arith in
    ap (λ (b : Bool). cond b (p ∷ covering 0 movable) (covering 0 movable)) t ∙ ap (λ (w : List Movable). p ∷ w) (covering_zero movable)

leaving_only : (shortage : ℕ) (movable : List Movable) (p q : Movable) → IsLeaving shortage movable p → IsLeaving shortage movable q → p ≡ q
leaving_only shortage movable p q (inl a) (inl b) = best_only is_smaller (covering shortage movable) p q a b
leaving_only shortage movable p q (inl a) (inr b) = absurd (none_best is_smaller (covering shortage movable) p b.0 a)
leaving_only shortage movable p q (inr a) (inl b) = absurd (none_best is_smaller (covering shortage movable) q a.0 b)
leaving_only shortage movable p q (inr a) (inr b) = best_only is_larger movable p q a.1 b.1

covering_none : (shortage : ℕ) (movable : List Movable) → movable ≡ [] → covering shortage movable ≡ []
covering_none shortage movable e = ap (covering shortage) e

none_leaves : (shortage : ℕ) (movable : List Movable) (p : Movable) → movable ≡ [] → IsLeaving shortage movable p → ⊥
none_leaves shortage movable p e (inl a) = none_best is_smaller (covering shortage movable) p (covering_none shortage movable e) a
none_leaves shortage movable p e (inr a) = none_best is_larger movable p e a.1

pub no_process_ushered : (sight : Sight) → sight.movable ≡ [] → (choice : Choice) → IsUshering sight choice → ⊥
no_process_ushered sight e choice u = none_leaves (shortage_of sight) sight.movable u.process e u.leaves

pub no_target_ushered : (sight : Sight) (p : Movable) → IsLeaving (shortage_of sight) sight.movable p → roomy p.1 (reserve_of sight) sight.known ≡ [] → (choice : Choice) → IsUshering sight choice → ⊥
no_target_ushered sight p l e choice u =
    let s : p ≡ u.process = leaving_only (shortage_of sight) sight.movable p u.process l u.leaves in
    none_best is_tighter (roomy u.process.1 (reserve_of sight) sight.known) u.target (ap (λ (w : Movable). roomy w.1 (reserve_of sight) sight.known) (sym s) ∙ e) u.takes

pub no_process_balanced : (sight : Sight) → covering 0 sight.movable ≡ [] → (choice : Choice) → IsBalancing sight choice → ⊥
no_process_balanced sight e choice b = none_best is_smaller sight.movable b.process (sym (covering_zero sight.movable) ∙ e) b.leaves

pub no_target_balanced : (sight : Sight) → sight.known ≡ [] → (choice : Choice) → IsBalancing sight choice → ⊥
no_target_balanced sight e choice b = none_best is_lighter sight.known b.target e b.takes

pub no_lead_balanced : (sight : Sight) (e : Entry) → IsBest is_lighter sight.known e → sight.load < e.load + 2 → (choice : Choice) → IsBalancing sight choice → ⊥
no_lead_balanced sight e i l choice b =
    let s : e ≡ b.target = best_only is_lighter sight.known e b.target i b.takes in
    let t : e.load ≡ b.target.load = ap (λ (w : Entry). w.load) s in
    let m = b.lighter in
    omega arith

pub no_room_balanced : (sight : Sight) (p : Movable) (e : Entry) → IsBest is_smaller (covering 0 sight.movable) p → IsBest is_lighter sight.known e → nat_le (p.1 + reserve_of sight) e.free ≡ false → (choice : Choice) → IsBalancing sight choice → ⊥
no_room_balanced sight p e a i f choice b =
    let s : e ≡ b.target = best_only is_lighter sight.known e b.target i b.takes in
    let u : e.free ≡ b.target.free = ap (λ (w : Entry). w.free) s in
    let q : p ≡ b.process = best_only is_smaller sight.movable p b.process (subst (λ (w : List Movable). IsBest is_smaller w p) (covering_zero sight.movable) a) b.leaves in
    let r : p.1 ≡ b.process.1 = ap (λ (w : Movable). w.1) q in
    let g : e.free < p.1 + reserve_of sight = grind arith in
    let m = b.room in
    omega arith

pub is_balanced : (sight : Sight) (p : Movable) (e : Entry) → IsBest is_smaller (covering 0 sight.movable) p → IsBest is_lighter sight.known e → e.load + 2 ≤ sight.load → nat_le (p.1 + reserve_of sight) e.free ≡ true → IsBalancing sight (record { pid = p.0; to = e.node })
is_balanced sight p e a i l t = record {
  process = p;
  target = e;
  leaves = subst (λ (w : List Movable). IsBest is_smaller w p) (covering_zero sight.movable) a;
  takes = i;
  lighter = l;
  room = grind arith;
  is = refl;
}

pub is_ushered : (sight : Sight) (p : Movable) (e : Entry) → IsLeaving (shortage_of sight) sight.movable p → IsBest is_tighter (roomy p.1 (reserve_of sight) sight.known) e → IsUshering sight (record { pid = p.0; to = e.node })
is_ushered sight p e a i = record {
  process = p;
  target = e;
  leaves = a;
  takes = i;
  is = refl;
}

usherings_same : (sight : Sight) (a b : Choice) → IsUshering sight a → IsUshering sight b → a ≡ b
usherings_same sight a b u v =
    let s : u.process ≡ v.process = leaving_only (shortage_of sight) sight.movable u.process v.process u.leaves v.leaves in
    let k = ap (λ (w : Movable). roomy w.1 (reserve_of sight) sight.known) s in
    let t : u.target ≡ v.target = best_only is_tighter (roomy v.process.1 (reserve_of sight) sight.known) u.target v.target (subst (λ (w : List Entry). IsBest is_tighter w u.target) k u.takes) v.takes in
    u.is ∙ (ap (λ (w : Movable). (let c : Choice = record { pid = w.0; to = u.target.node } in c)) s ∙ (ap (λ (w : Entry). (let c : Choice = record { pid = v.process.0; to = w.node } in c)) t ∙ sym v.is))

balancings_same : (sight : Sight) (a b : Choice) → IsBalancing sight a → IsBalancing sight b → a ≡ b
balancings_same sight a b u v =
    let s : u.process ≡ v.process = best_only is_smaller sight.movable u.process v.process u.leaves v.leaves in
    let t : u.target ≡ v.target = best_only is_lighter sight.known u.target v.target u.takes v.takes in
    u.is ∙ (ap (λ (w : Movable). (let c : Choice = record { pid = w.0; to = u.target.node } in c)) s ∙ (ap (λ (w : Entry). (let c : Choice = record { pid = v.process.0; to = w.node } in c)) t ∙ sym v.is))

pub choices_same : (sight : Sight) (a b : Choice) → IsBestChoice sight a → IsBestChoice sight b → a ≡ b
choices_same sight a b = go (nat_lt sight.free (reserve_of sight))
  where
    go : (r : Bool) → MatchBool r (IsUshering sight a) (IsBalancing sight a) → MatchBool r (IsUshering sight b) (IsBalancing sight b) → a ≡ b
    go true u v = usherings_same sight a b u v
    go false u v = balancings_same sight a b u v

-- so there is one answer
pub answers_same : (sight : Sight) (a b : Option Choice) → IfSome a (IsBestChoice sight) → IfNone a ((choice : Choice) → IsBestChoice sight choice → ⊥) → IfSome b (IsBestChoice sight) → IfNone b ((choice : Choice) → IsBestChoice sight choice → ⊥) → a ≡ b
answers_same sight None None p q r s = refl
answers_same sight None (Some b) p q r s = absurd (q b r)
answers_same sight (Some a) None p q r s = absurd (s a p)
answers_same sight (Some a) (Some b) p q r s = ap Some (choices_same sight a b p r)
