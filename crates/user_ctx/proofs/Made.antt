-- The words of pages made ready, as words are learned, forgotten and stored to.
use Rattle.std.proofs.Common.{◌≡◌, ◌≢◌, inl, inr, ℕ, zero, suc, ◌+◌, ◌-◌, ◌*◌, ◌/◌, ◌%◌, ◌^◌, ◌<◌, ◌≤◌, List, [], ◌∷◌, refl, ap, ◌∙◌, sym, subst, arith, length, set, replicate, slice_index_or, min, max, Some, Ok}
use Rattle.std.specs.Prelude.{◌==◌, if◌then◌else◌}
use Rattle.std.specs.List.{slice_get}
use Rattle.std.proofs.lemmas.Bool.Decides.{eqb_tells}
use Rattle.std.proofs.lemmas.List.{length-set, length-replicate}
use Rattle.std.proofs.lemmas.Option.{none-some, same_Some}
use Rattle.page_set.specs.Pages.{PageMap, loaded}
use Rattle.rv_decode.specs.Instructions.{instruction_of}
use Rattle.rv_decode.specs.declared.instruction.Instr.{Instr}
use Rattle.user_spec.specs.declared.effect.Effect.TheVariants as effect
use Rattle.user_spec.specs.Instruction.{fetched_effect, decoded_effect, effect_of, next_effect}
use Rattle.user_ctx.specs.declared.op.Op.{Op}
use Rattle.user_ctx.specs.declared.op.Op.TheVariants.{Unknown}
use Rattle.user_ctx.specs.declared.window.Window.{Window}
use Rattle.user_ctx.specs.declared.windows.Windows.{Windows}
use Rattle.user_ctx.specs.Ops.{IsOpOf, IsOp}
use Rattle.user_ctx.specs.Windows.{word_of, SameWords, SameBut, IsClear, IsWindow, IsWindowBut, Forgets, IsWatched, IsWatchedBut, IsReady, IsReadyBut, IsOneOf, AreReady}

pub is_clear : (addr low end : ℕ) → addr < 2 ^ 32 → low < 2 ^ 32 → low ≤ end → end < 0xFFFFF001 → end - low + 6 ≤ ((addr + 3) % 2 ^ 32 + (2 ^ 32 - low)) % 2 ^ 32 → IsClear addr low end
is_clear addr low end la ll le lt h = record { range = la; each = λ at above below aligned. (λ e. absurd (omega arith), λ e. absurd (omega arith)) }

-- ---- lists

pub get_set : {A : Type 0} (xs : List A) (i : ℕ) (v w : A) → slice_get (set xs i v) i ≡ Some w → w ≡ v
get_set [] i v w h = absurd (none-some w h)
get_set (x ∷ xs) zero v w h = sym (same_Some v w h)
get_set (x ∷ xs) (suc i) v w h = get_set xs i v w h

pub get_set_here : {A : Type 0} (xs : List A) (i : ℕ) (v : A) → i < length xs → slice_get (set xs i v) i ≡ Some v
get_set_here [] i v lt = absurd (omega arith)
get_set_here (x ∷ xs) zero v lt = refl
get_set_here (x ∷ xs) (suc i) v lt = get_set_here xs i v (omega arith)

pub get_set_other : {A : Type 0} (xs : List A) (i j : ℕ) (v : A) → j ≢ i → slice_get (set xs i v) j ≡ slice_get xs j
get_set_other [] i j v h = refl
get_set_other (x ∷ xs) zero zero v h = absurd (h refl)
get_set_other (x ∷ xs) zero (suc j) v h = refl
get_set_other (x ∷ xs) (suc i) zero v h = refl
get_set_other (x ∷ xs) (suc i) (suc j) v h = get_set_other xs i j v (λ e. h (ap suc e))

pub got : {A : Type 0} (xs : List A) (i : ℕ) (d : A) → i < length xs → slice_get xs i ≡ Some (slice_index_or xs i d)
got [] i d h = absurd (omega arith)
got (x ∷ xs) zero d h = refl
got (x ∷ xs) (suc i) d h = got xs i d (omega arith)

get_within : {A : Type 0} (xs : List A) (i : ℕ) (v : A) → slice_get xs i ≡ Some v → i < length xs
get_within [] i v h = absurd (none-some v h)
get_within (x ∷ xs) zero v h = omega arith
get_within (x ∷ xs) (suc i) v h = let lt = get_within xs i v h in omega arith

get_replicate : {A : Type 0} (n i : ℕ) (v w : A) → slice_get (replicate {A = A} n v) i ≡ Some w → w ≡ v
get_replicate zero i v w h = absurd (none-some w h)
get_replicate (suc n) zero v w h = sym (same_Some v w h)
get_replicate (suc n) (suc i) v w h = get_replicate n i v w h

pub set_same : {A : Type 0} (xs : List A) (i : ℕ) (v d : A) → v ≡ slice_index_or xs i d → set xs i v ≡ xs
set_same [] i v d e = refl
set_same (x ∷ xs) zero v d e = ap (λ y. y ∷ xs) e
set_same (x ∷ xs) (suc i) v d e = ap (λ ys. x ∷ ys) (set_same xs i v d e)

-- ---- a new page

nothing_ready : (pages : PageMap) (at : ℕ) (op : Op) → op ≡ Unknown → IsOp pages at op
nothing_ready pages at op e = rw e (record { each = λ x. tt })

get_replicate_at : {A : Type 0} (n i : ℕ) (v : A) → i < n → slice_get (replicate {A = A} n v) i ≡ Some v
get_replicate_at zero i v lt = absurd (omega arith)
get_replicate_at (suc n) zero v lt = refl
get_replicate_at (suc n) (suc i) v lt = get_replicate_at n i v (omega arith)

pub nothing : (pages : PageMap) (base : ℕ) → base % 4096 ≡ 0 → base + 4096 < 2 ^ 32 → IsWindow pages base (replicate {A = Op} 1025 Unknown)
nothing pages base al lb = record {
  aligned = al;
  range = lb;
  long = length-replicate 1025 Unknown;
  last = get_replicate_at 1025 1024 Unknown (omega arith);
  each = λ i op lt is. nothing_ready pages (base + 4 * i) op (get_replicate 1025 i Unknown op is);
}

-- ---- a word learned

fetched_at : (pc word : ℕ) (instr : Instr) (x : List ℕ) (pages : PageMap) → pc % 4 ≡ 0 → loaded pages pc 4 1 ≡ Ok word → instruction_of word ≡ Some instr → effect_of instr pc x ≡ next_effect pc x pages
fetched_at pc word instr x pages h e d = rw h (sym (ap (λ r. fetched_effect r pc x) e ∙ ap (λ o. decoded_effect o pc x) d))

op_at : (pages : PageMap) (pc word : ℕ) (instr : Instr) (op : Op) → pc % 4 ≡ 0 → loaded pages pc 4 1 ≡ Ok word → instruction_of word ≡ Some instr → IsOpOf op instr pc → IsOp pages pc op
op_at pages pc word instr op h e d o = record { each = λ x. rw (← fetched_at pc word instr x pages h e d) (o.each x) }

pub learned : (pages : PageMap) (base at place word : ℕ) (old new : List Op) (instr : Instr) (op : Op) → IsWindow pages base old → at % 4 ≡ 0 → at / 4096 * 4096 ≡ base → place ≡ at / 4 % 1024 → loaded pages at 4 1 ≡ Ok word → instruction_of word ≡ Some instr → IsOpOf op instr at → new ≡ set old place op → IsWindow pages base new
learned pages base at place word old new instr op w al b p e d o n = record {
  aligned = w.aligned;
  range = w.range;
  long = ap length n ∙ length-set old place op ∙ w.long;
  last = ap (λ l. slice_get l 1024) n ∙ get_set_other old place 1024 op (λ e. absurd (omega arith)) ∙ w.last;
  each = λ i other lt is. elim (eqb_tells i place) as (λ _. IsOp pages (base + 4 * i) other) [
    | inl s ↦
        let here : base + 4 * i ≡ at = omega (arith, s.1) in
        let same : other ≡ op = get_set old place op other (sym (ap (slice_get (set old place op)) s.1) ∙ sym (ap (λ l. slice_get l i) n) ∙ is) in
        rw here (rw same (op_at pages at word instr op al e d o))
    | inr s ↦ w.each i other lt (sym (get_set_other old place i op s.1) ∙ sym (ap (λ l. slice_get l i) n) ∙ is)
  ];
}

-- ---- a word forgotten

pub forgets_here : (word base place : ℕ) (old new : List Op) → word % 4 ≡ 0 → word / 4096 * 4096 ≡ base → place ≡ word / 4 % 1024 → new ≡ set old place Unknown → Forgets word base old new
forgets_here word base place old new al b p n = record {
  long = ap length n ∙ length-set old place Unknown;
  last = ap (λ l. slice_get l 1024) n ∙ get_set_other old place 1024 Unknown (λ e. absurd (omega arith));
  each = λ pages i op lt is. (
    λ ne. (let apart : i ≢ place = (λ e. ne (omega (arith, e))) in sym (get_set_other old place i Unknown apart) ∙ sym (ap (λ l. slice_get l i) n) ∙ is),
    λ e.
        let here : i ≡ place = omega arith in
        nothing_ready pages (base + 4 * i) op (get_set old place Unknown op (sym (ap (slice_get (set old place Unknown)) here) ∙ sym (ap (λ l. slice_get l i) n) ∙ is)),
  );
}

pub forgets_elsewhere : (word base : ℕ) (old : List Op) → base % 4096 ≡ 0 → word / 4096 * 4096 ≢ base → Forgets word base old old
forgets_elsewhere word base old al ne = record {
  long = refl;
  last = refl;
  each = λ pages i op lt is. (λ _. is, λ e. absurd (ne (omega arith)));
}

pub forgot : (addr : ℕ) (pages : PageMap) (a b c : ℕ) (old mid new : List Op) → IsWindowBut addr pages a old → b ≡ a → c ≡ b → Forgets (word_of addr) a old mid → Forgets (word_of ((addr + 3) % 2 ^ 32)) b mid new → IsWindow pages c new
forgot addr pages a b c old mid new w s t f g =
    let base : c ≡ a = t ∙ s in
    rw base (record {
      aligned = w.aligned;
      range = w.range;
      long = g.long ∙ f.long ∙ w.long;
      last = g.last ∙ f.last ∙ w.last;
      each = λ i op lt is.
          elim (eqb_tells (a + 4 * i) (word_of ((addr + 3) % 2 ^ 32))) as (λ _. IsOp pages (a + 4 * i) op) [
            | inl e ↦ subst (λ z. IsOp pages (z + 4 * i) op) s ((g.each pages i op lt is).1 (ap (λ z. z + 4 * i) s ∙ e.1))
            | inr e ↦
                let kept = (g.each pages i op lt is).0 (λ q. e.1 (sym (ap (λ z. z + 4 * i) s) ∙ q)) in
                elim (eqb_tells (a + 4 * i) (word_of addr)) as (λ _. IsOp pages (a + 4 * i) op) [
                  | inl q ↦ (f.each pages i op lt kept).1 q.1
                  | inr q ↦ w.each i op lt ((f.each pages i op lt kept).0 q.1) q.1 e.1
                ]
          ];
    })

-- ---- a store

effect_kept : (old new : PageMap) (at : ℕ) (x : List ℕ) → loaded new at 4 1 ≡ loaded old at 4 1 → next_effect at x new ≡ next_effect at x old
effect_kept old new at x e = ap (λ r. if at % 4 == 0 then fetched_effect r at x else effect.Raises 11) e

op_kept : (old new : PageMap) (at : ℕ) (op : Op) → loaded new at 4 1 ≡ loaded old at 4 1 → IsOp old at op → IsOp new at op
op_kept old new at op e o = record { each = λ x. rw (effect_kept old new at x e) (o.each x) }

pub window_same : (old new : PageMap) (base low end : ℕ) (ops : List Op) → IsWindow old base ops → low ≤ base → base + 4096 ≤ end → SameWords low end old new → IsWindow new base ops
window_same old new base low end ops w above below s = record {
  aligned = w.aligned;
  range = w.range;
  long = w.long;
  last = w.last;
  each = λ i op lt is.
      let al = w.aligned in
      let four : (base + 4 * i) % 4 ≡ 0 = omega arith in
      op_kept old new (base + 4 * i) op (s.each (base + 4 * i) four (omega arith) (omega arith)) (w.each i op lt is);
}

pub watched_same : (old new : PageMap) (low end : ℕ) (window : Window) → IsWatched old low end window → SameWords low end old new → IsWatched new low end window
watched_same old new low end window w s = record { page = window_same old new window.base low end window.ops w.page w.above w.below s; above = w.above; below = w.below }

watched_but : (addr : ℕ) (old new : PageMap) (low end : ℕ) (window : Window) → IsWatched old low end window → SameBut addr low end old new → IsWatchedBut addr new low end window
watched_but addr old new low end window w s =
    let above = w.above in
    let below = w.below in
    record {
      page = record {
        aligned = w.page.aligned;
        range = w.page.range;
        long = w.page.long;
        last = w.page.last;
        each = λ i op lt is first last.
            let al = w.page.aligned in
            let four : (window.base + 4 * i) % 4 ≡ 0 = omega arith in
            op_kept old new (window.base + 4 * i) op (s.each (window.base + 4 * i) four (omega arith) (omega arith) first last) (w.page.each i op lt is);
      };
      above = above;
      below = below;
    }

-- ---- several pages

pub watched_at : (pages : PageMap) (low end slot : ℕ) (slots : List Window) (d : Window) → IsReady pages low end slots → slot < length slots → IsWatched pages low end (slice_index_or slots slot d)
watched_at pages low end slot slots d r lt = r.each slot (slice_index_or slots slot d) (got slots slot d lt)

pub one_at : (slots : List Window) (slot : ℕ) (d : Window) → slot < length slots → IsOneOf (slice_index_or slots slot d) slots
one_at slots slot d lt = record { slot = slot; there = got slots slot d lt }

pub one_watched : (old new : PageMap) (windows : Windows) (window : Window) → AreReady old windows → SameWords windows.low windows.end old new → IsOneOf window windows.slots → IsWatched new windows.low windows.end window
one_watched old new windows window r s o = watched_same old new windows.low windows.end window (r.ready.each o.slot window o.there) s

pub ready_set : (pages : PageMap) (low end slot : ℕ) (old new : List Window) (w : Window) → IsReady pages low end old → IsWatched pages low end w → new ≡ set old slot w → IsReady pages low end new
ready_set pages low end slot old new w r h n = record {
  each = λ s v is. elim (eqb_tells s slot) as (λ _. IsWatched pages low end v) [
    | inl e ↦ rw (get_set old slot w v (sym (ap (slice_get (set old slot w)) e.1) ∙ sym (ap (λ l. slice_get l s) n) ∙ is)) h
    | inr e ↦ r.each s v (sym (get_set_other old slot s w e.1) ∙ sym (ap (λ l. slice_get l s) n) ∙ is)
  ];
}

pub learned_at : (pages : PageMap) (low end : ℕ) (old new : Window) → IsWatched pages low end old → IsWindow pages new.base new.ops → new.base ≡ old.base → IsWatched pages low end new
learned_at pages low end old new w h e =
    let above = w.above in
    let below = w.below in
    record { page = h; above = omega arith; below = omega arith }

pub ready_new : (pages : PageMap) (base : ℕ) (window : Window) → IsWindow pages window.base window.ops → window.base ≡ base → IsReady pages base (base + 4096) (replicate {A = Window} 4 window)
ready_new pages base window w e = record {
  each = λ s v is. rw (get_replicate 4 s window v is) (record { page = w; above = omega arith; below = omega arith });
}

wider : (pages : PageMap) (low end base : ℕ) (window : Window) → IsWatched pages low end window → IsWatched pages (min low base) (max end (base + 4096)) window
wider pages low end base window w =
    let above = w.above in
    let below = w.below in
    record { page = w.page; above = omega arith; below = omega arith }

ready_wider : (pages : PageMap) (low end base : ℕ) (slots : List Window) → IsReady pages low end slots → IsReady pages (min low base) (max end (base + 4096)) slots
ready_wider pages low end base slots r = record { each = λ s v is. wider pages low end base v (r.each s v is) }

pub ready_renewed : (pages : PageMap) (low end base slot a b : ℕ) (old : List Window) (window : Window) → IsReady pages low end old → IsWindow pages window.base window.ops → window.base ≡ base → a ≡ min low base → b ≡ max end (base + 4096) → IsReady pages a b (set old slot window)
ready_renewed pages low end base slot a b old window r w e p q =
    rw p (rw q (ready_set pages (min low base) (max end (base + 4096)) slot old (set old slot window) window (ready_wider pages low end base old r) (record { page = w; above = omega arith; below = omega arith }) refl))

pub ready_same : (old new : PageMap) (low end : ℕ) (slots : List Window) → IsReady old low end slots → SameWords low end old new → IsReady new low end slots
ready_same old new low end slots r s = record { each = λ i v is. watched_same old new low end v (r.each i v is) s }

pub ready_but : (addr : ℕ) (old new : PageMap) (low end : ℕ) (slots : List Window) → IsReady old low end slots → SameBut addr low end old new → IsReadyBut addr new low end slots
ready_but addr old new low end slots r s = record { each = λ i v is. watched_but addr old new low end v (r.each i v is) s }

pub ready_stored : (addr : ℕ) (old new : PageMap) (low end : ℕ) (slots : List Window) → IsReady old low end slots → end ≤ 2 ^ 32 → SameBut addr 0 (2 ^ 32) old new → IsReadyBut addr new low end slots
ready_stored addr old new low end slots r most s = ready_but addr old new low end slots r (record { each = λ at al above below first last. s.each at al (omega arith) (omega arith) first last })

-- ---- a store to several pages

-- the pages below a place are ready, the others but for the words of a store
pub record Forgot (addr i : ℕ) (pages : PageMap) (low end : ℕ) (slots : List Window) : Type 0 where
  pub long : length slots ≡ 4
  pub now : (s : ℕ) (w : Window) → s < i → slice_get slots s ≡ Some w → IsWatched pages low end w
  pub later : (s : ℕ) (w : Window) → i ≤ s → slice_get slots s ≡ Some w → IsWatchedBut addr pages low end w

pub forgot_none : (addr i : ℕ) (pages : PageMap) (low end : ℕ) (slots : List Window) → IsReadyBut addr pages low end slots → length slots ≡ 4 → i ≡ 0 → Forgot addr i pages low end slots
forgot_none addr i pages low end slots r long e = record { long = long; now = λ s w lt is. absurd (omega arith); later = λ s w le is. r.each s w is }

pub but_at : (addr i : ℕ) (pages : PageMap) (low end : ℕ) (slots : List Window) (d : Window) → Forgot addr i pages low end slots → i < 4 → IsWatchedBut addr pages low end (slice_index_or slots i d)
but_at addr i pages low end slots d f lt = f.later i (slice_index_or slots i d) (omega arith) (got slots i d (let long = f.long in omega arith))

pub forgot_one : (addr i : ℕ) (pages : PageMap) (low end : ℕ) (old new : List Window) (w d : Window) → Forgot addr i pages low end old → i < 4 → IsWindow pages w.base w.ops → w.base ≡ (slice_index_or old i d).base → new ≡ set old i w → Forgot addr (i + 1) pages low end new
forgot_one addr i pages low end old new w d f lt h e n =
    let was = but_at addr i pages low end old d f lt in
    let above = was.above in
    let below = was.below in
    let here : IsWatched pages low end w = record { page = h; above = omega arith; below = omega arith } in
    record {
      long = ap length n ∙ length-set old i w ∙ f.long;
      now = λ s v less is. elim (eqb_tells s i) as (λ _. IsWatched pages low end v) [
        | inl q ↦ rw (get_set old i w v (sym (ap (slice_get (set old i w)) q.1) ∙ sym (ap (λ l. slice_get l s) n) ∙ is)) here
        | inr q ↦ f.now s v (let ne = q.1 in omega arith) (sym (get_set_other old i s w q.1) ∙ sym (ap (λ l. slice_get l s) n) ∙ is)
      ];
      later = λ s v more is. f.later s v (omega arith) (sym (get_set_other old i s w (λ q. absurd (omega arith))) ∙ sym (ap (λ l. slice_get l s) n) ∙ is);
    }

pub forgot_all : (addr i : ℕ) (pages : PageMap) (low end : ℕ) (slots : List Window) → Forgot addr i pages low end slots → 4 ≤ i → IsReady pages low end slots
forgot_all addr i pages low end slots f le = record { each = λ s w is. (let lt = get_within slots s w is in let long = f.long in f.now s w (omega arith) is) }
