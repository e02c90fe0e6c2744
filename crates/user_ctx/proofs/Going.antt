-- One ready instruction, and several.
use Rattle.std.proofs.Common.{◌≡◌, ◌≢◌, inl, inr, Bool, true, false, ℕ, ◌+◌, ◌*◌, ◌%◌, ◌^◌, ◌<◌, ◌≤◌, List, ◌∷◌, refl, ap, ◌∙◌, sym, arith, drop, slice_index_or, Some, Ok}
use Rattle.std.specs.List.{slice_get}
use Rattle.std.proofs.lemmas.Option.{same_Some}
use Rattle.page_set.specs.Pages.{PageMap}
use Rattle.user_spec.specs.Words.{sum_of}
use Rattle.user_spec.specs.User.{with_register}
use Rattle.user_spec.specs.declared.effect.Width.{Width}
use Rattle.user_spec.specs.declared.effect.Form.{Form}
use Rattle.user_spec.specs.declared.effect.Effect.{Effect}
use Rattle.user_spec.specs.declared.effect.Effect.TheVariants as effect
use Rattle.user_spec.specs.Instruction.{Core, done, jump, applied, with_loaded, with_stored, load_as, store_as, next_effect, one_instruction}
use Rattle.user_ctx.specs.declared.op.Op.{Op}
use Rattle.user_ctx.specs.declared.op.Op.TheVariants.{Unknown}
use Rattle.user_ctx.specs.declared.op.Work.{Work}
use Rattle.user_ctx.specs.declared.op.Work.TheVariants as work
use Rattle.user_ctx.specs.Stopping.{core}
use Rattle.user_ctx.specs.declared.blocks.Gone.{Gone}
use Rattle.user_ctx.specs.declared.blocks.Gone.TheVariants.{Next, Jumped, Away, Wrote, Left}
use Rattle.user_ctx.specs.Ops.{work_of, place_at, IsWork}
use Rattle.user_ctx.specs.Windows.{IsWindow}
use Rattle.user_ctx.proofs.Maps.{lt_or_le}
use Rattle.user_ctx.proofs.Made.{got}

abbrev pub is_on : Work → Bool
is_on work.Leaves = false
is_on (work.Sets rd value) = true
is_on (work.Loads rd addr form) = true
is_on (work.Stores addr value width) = true
is_on work.Falls = true
is_on (work.Goes to) = true
is_on (work.Links rd to) = true
is_on (work.Leaps target) = true
is_on (work.LeapsFrom rd target) = true

leaves_not : (w : Work) → is_on w ≡ true → work.Leaves ≡ w → ⊥
leaves_not w h e = let f : false ≡ true = ap (λ (v : Work). is_on v) e ∙ h in cc

-- nothing is done at a place that is left to a plain step
pub not_slow : (pages : PageMap) (base place : ℕ) (ops : List Op) (d : Op) (x : List ℕ) (w : Work) → IsWindow pages base ops → place ≤ 1024 → work_of (slice_index_or ops place d) x ≡ w → is_on w ≡ true → slice_get ops place ≢ Some Unknown
not_slow pages base place ops d x w win le e h is =
    let long = win.long in
    let slow : slice_index_or ops place d ≡ Unknown = same_Some (slice_index_or ops place d) Unknown (sym (got ops place d (omega arith)) ∙ is) in
    leaves_not w h (sym (ap (λ (op : Op). work_of op x) slow) ∙ e)

-- so it is done within the page
pub inside : (pages : PageMap) (base place : ℕ) (ops : List Op) (d : Op) (x : List ℕ) (w : Work) → IsWindow pages base ops → place ≤ 1024 → work_of (slice_index_or ops place d) x ≡ w → is_on w ≡ true → place < 1024
inside pages base place ops d x w win le e h =
    elim (lt_or_le place 1024) as (λ _. place < 1024) [
      | inl lt ↦ lt
      | inr ge ↦ let is : place ≡ 1024 = omega arith in absurd (not_slow pages base place ops d x w win le e h (ap (slice_get ops) is ∙ win.last))
    ]

work_at : (pages : PageMap) (base place : ℕ) (ops : List Op) (d : Op) (x : List ℕ) (w : Work) → IsWindow pages base ops → place < 1024 → work_of (slice_index_or ops place d) x ≡ w → IsWork w (base + 4 * place) (next_effect (base + 4 * place) x pages)
work_at pages base place ops d x w win lt e =
    let long = win.long in
    rw (← e) ((win.each place (slice_index_or ops place d) lt (got ops place d (omega arith))).each x)

at_core : (pc : ℕ) (x : List ℕ) (pages : PageMap) (e : Effect) → x ≡ 0 ∷ drop 1 x → next_effect pc x pages ≡ e → one_instruction (core pc x pages) ≡ applied e (core pc x pages)
at_core pc x pages e h is = ap (λ y. applied (next_effect pc y pages) (core pc x pages)) (sym h) ∙ ap (λ e. applied e (core pc x pages)) is

next_place : (base place : ℕ) → base + 4096 < 2 ^ 32 → place < 1024 → sum_of (base + 4 * place) 4 ≡ base + 4 * (place + 1)
next_place base place lb lt = omega arith

other_place : (base place to : ℕ) → base % 4096 ≡ 0 → place < 1024 → place_at (base + 4 * place) to ≡ base + 4 * to
other_place base place to al lt = omega arith

aligned_jump : (rd value target : ℕ) → target % 4 ≡ 0 → jump rd value target ≡ effect.Sets rd value target
aligned_jump rd value target h = rw h refl

with_parts : (pc next : ℕ) (registers other : List ℕ) (pages : PageMap) → pc ≡ next → registers ≡ other → done (let c : Core = record { pc = pc; registers = registers; pages = pages } in c) ≡ done (let c : Core = record { pc = next; registers = other; pages = pages } in c)
with_parts pc next registers other pages p r =
    ap (λ n. done (let c : Core = record { pc = n; registers = registers; pages = pages } in c)) p
    ∙ ap (λ l. done (let c : Core = record { pc = next; registers = l; pages = pages } in c)) r

pub sets : (pages : PageMap) (base place rd value : ℕ) (ops : List Op) (d : Op) (x new : List ℕ) → IsWindow pages base ops → place ≤ 1024 → x ≡ 0 ∷ drop 1 x → work_of (slice_index_or ops place d) x ≡ work.Sets rd value → drop 1 new ≡ with_register (drop 1 x) rd value → one_instruction (core (base + 4 * place) x pages) ≡ done (core (base + 4 * (place + 1)) new pages)
sets pages base place rd value ops d x new win le z e n =
    let lt = inside pages base place ops d x (work.Sets rd value) win le e refl in
    at_core (base + 4 * place) x pages _ z (work_at pages base place ops d x (work.Sets rd value) win lt e)
    ∙ with_parts _ _ _ _ pages (next_place base place win.range lt) (sym n)

pub loads : (pages : PageMap) (base place rd addr value : ℕ) (form : Form) (ops : List Op) (d : Op) (x new : List ℕ) → IsWindow pages base ops → place ≤ 1024 → x ≡ 0 ∷ drop 1 x → work_of (slice_index_or ops place d) x ≡ work.Loads rd addr form → load_as form pages addr ≡ Ok value → drop 1 new ≡ with_register (drop 1 x) rd value → one_instruction (core (base + 4 * place) x pages) ≡ done (core (base + 4 * (place + 1)) new pages)
loads pages base place rd addr value form ops d x new win le z e l n =
    let lt = inside pages base place ops d x (work.Loads rd addr form) win le e refl in
    at_core (base + 4 * place) x pages _ z (work_at pages base place ops d x (work.Loads rd addr form) win lt e)
    ∙ ap (λ r. with_loaded rd r (core (base + 4 * place) x pages)) l
    ∙ with_parts _ _ _ _ pages (next_place base place win.range lt) (sym n)

pub stores : (pages after : PageMap) (base place addr value : ℕ) (width : Width) (ops : List Op) (d : Op) (x : List ℕ) → IsWindow pages base ops → place ≤ 1024 → x ≡ 0 ∷ drop 1 x → work_of (slice_index_or ops place d) x ≡ work.Stores addr value width → store_as width pages addr value ≡ Ok after → one_instruction (core (base + 4 * place) x pages) ≡ done (core (base + 4 * (place + 1)) x after)
stores pages after base place addr value width ops d x win le z e s =
    let lt = inside pages base place ops d x (work.Stores addr value width) win le e refl in
    at_core (base + 4 * place) x pages _ z (work_at pages base place ops d x (work.Stores addr value width) win lt e)
    ∙ ap (λ r. with_stored r (core (base + 4 * place) x pages)) s
    ∙ ap (λ next. done (core next x after)) (next_place base place win.range lt)

pub falls : (pages : PageMap) (base place : ℕ) (ops : List Op) (d : Op) (x : List ℕ) → IsWindow pages base ops → place ≤ 1024 → x ≡ 0 ∷ drop 1 x → work_of (slice_index_or ops place d) x ≡ work.Falls → one_instruction (core (base + 4 * place) x pages) ≡ done (core (base + 4 * (place + 1)) x pages)
falls pages base place ops d x win le z e =
    let lt = inside pages base place ops d x work.Falls win le e refl in
    at_core (base + 4 * place) x pages _ z (work_at pages base place ops d x work.Falls win lt e).is
    ∙ ap (λ next. done (core next x pages)) (next_place base place win.range lt)

pub goes_to : (pages : PageMap) (base place to : ℕ) (ops : List Op) (d : Op) (x : List ℕ) (next : ℕ) → IsWindow pages base ops → place ≤ 1024 → x ≡ 0 ∷ drop 1 x → work_of (slice_index_or ops place d) x ≡ work.Goes to → next ≡ to → one_instruction (core (base + 4 * place) x pages) ≡ done (core (base + 4 * next) x pages)
goes_to pages base place to ops d x next win le z e n =
    let lt = inside pages base place ops d x (work.Goes to) win le e refl in
    at_core (base + 4 * place) x pages _ z (work_at pages base place ops d x (work.Goes to) win lt e).is
    ∙ ap (λ next. done (core next x pages)) (other_place base place to win.aligned lt ∙ ap (λ i. base + 4 * i) (sym n))

pub links : (pages : PageMap) (base place rd to : ℕ) (ops : List Op) (d : Op) (x new : List ℕ) (next : ℕ) → IsWindow pages base ops → place ≤ 1024 → x ≡ 0 ∷ drop 1 x → work_of (slice_index_or ops place d) x ≡ work.Links rd to → drop 1 new ≡ with_register (drop 1 x) rd (sum_of (base + 4 * place) 4) → next ≡ to → one_instruction (core (base + 4 * place) x pages) ≡ done (core (base + 4 * next) new pages)
links pages base place rd to ops d x new next win le z e n t =
    let lt = inside pages base place ops d x (work.Links rd to) win le e refl in
    at_core (base + 4 * place) x pages _ z (work_at pages base place ops d x (work.Links rd to) win lt e)
    ∙ with_parts _ _ _ _ pages (other_place base place to win.aligned lt ∙ ap (λ i. base + 4 * i) (sym t)) (sym n)

pub leaps : (pages : PageMap) (base place target : ℕ) (ops : List Op) (d : Op) (x : List ℕ) (next : ℕ) → IsWindow pages base ops → place ≤ 1024 → x ≡ 0 ∷ drop 1 x → work_of (slice_index_or ops place d) x ≡ work.Leaps target → target % 4 ≡ 0 → next ≡ target → one_instruction (core (base + 4 * place) x pages) ≡ done (core next x pages)
leaps pages base place target ops d x next win le z e al n =
    let lt = inside pages base place ops d x (work.Leaps target) win le e refl in
    let w = work_at pages base place ops d x (work.Leaps target) win lt e in
    at_core (base + 4 * place) x pages _ z (w.is ∙ aligned_jump 0 w.value target al)
    ∙ ap (λ next. done (core next x pages)) (sym n)

pub leaps_from : (pages : PageMap) (base place rd target : ℕ) (ops : List Op) (d : Op) (x new : List ℕ) (next : ℕ) → IsWindow pages base ops → place ≤ 1024 → x ≡ 0 ∷ drop 1 x → work_of (slice_index_or ops place d) x ≡ work.LeapsFrom rd target → target % 4 ≡ 0 → drop 1 new ≡ with_register (drop 1 x) rd (sum_of (base + 4 * place) 4) → next ≡ target → one_instruction (core (base + 4 * place) x pages) ≡ done (core next new pages)
leaps_from pages base place rd target ops d x new next win le z e al n t =
    let lt = inside pages base place ops d x (work.LeapsFrom rd target) win le e refl in
    at_core (base + 4 * place) x pages _ z (work_at pages base place ops d x (work.LeapsFrom rd target) win lt e ∙ aligned_jump rd (sum_of (base + 4 * place) 4) target al)
    ∙ with_parts _ _ _ _ pages (sym t) (sym n)

pub placed : (base place at : ℕ) (x : List ℕ) (pages : PageMap) (u : Core) → one_instruction u ≡ done (core (base + 4 * place) x pages) → at ≡ place → one_instruction u ≡ done (core (base + 4 * at) x pages)
placed base place at x pages u h e = h ∙ ap (λ p. done (core (base + 4 * p) x pages)) (sym e)

pub moved : (to pc : ℕ) (x : List ℕ) (pages : PageMap) (u : Core) → one_instruction u ≡ done (core to x pages) → pc ≡ to → one_instruction u ≡ done (core pc x pages)
moved to pc x pages u h e = h ∙ ap (λ p. done (core p x pages)) (sym e)

-- ---- a block ends within its page

pub below : (pages : PageMap) (base at : ℕ) (ops : List Op) → IsWindow pages base ops → at ≤ 1024 → slice_get ops at ≢ Some Unknown → at < 1024
below pages base at ops w le idle =
    elim (lt_or_le at 1024) as (λ _. at < 1024) [ inl l ↦ l | inr g ↦ let is : at ≡ 1024 = omega arith in absurd (idle (ap (slice_get ops) is ∙ w.last)) ]

pub next_on : (g : Gone) → g ≡ Next → g ≢ Left
next_on g e f = let is : Next ≡ Left = sym e ∙ f in cc

pub jumped_on : (g : Gone) → g ≡ Jumped → g ≢ Left
jumped_on g e f = let is : Jumped ≡ Left = sym e ∙ f in cc

pub away_on : (to : ℕ) (g : Gone) → g ≡ Away to → g ≢ Left
away_on to g e f = let is : Away to ≡ Left = sym e ∙ f in cc

pub wrote_on : (addr : ℕ) (g : Gone) → g ≡ Wrote addr → g ≢ Left
wrote_on addr g e f = let is : Wrote addr ≡ Left = sym e ∙ f in cc
