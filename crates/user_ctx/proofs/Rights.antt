-- Steps leave each page its rights.
use Rattle.std.proofs.Common.{◌≡◌, inl, inr, ℕ, zero, suc, ◌+◌, ◌/◌, ◌%◌, ◌<◌, ◌≤◌, ◌^◌, List, [], ◌∷◌, refl, ap, ◌∙◌, sym, arith, Option, Some, None, Result, Ok, Err, length}
use Rattle.std.proofs.lemmas.Option.{none-some, same_Some}
use Rattle.std.proofs.lemmas.Bool.Decides.{eqb_tells}
use Rattle.std.specs.FinMap as map
use Rattle.page_set.specs.Pages.{Page, PageMap, page_with_byte, changed_page, with_byte, with_bytes, where_granted, bytes_at, bytes_1, bytes_2, bytes_4, stored}
use Rattle.user_spec.specs.Words.{sum_of}
use Rattle.user_spec.specs.Request.{with_words}
use Rattle.user_spec.specs.Instruction.{Core, one_instruction, next_effect, applied, with_loaded, with_stored, load_as, store_as, on_outcome, ran}
use Rattle.user_spec.specs.declared.outcome.Outcome.{Outcome}
use Rattle.user_spec.specs.declared.outcome.Outcome.TheVariants.{Done, Call, Fault}
use Rattle.user_spec.specs.declared.effect.Effect.{Effect}
use Rattle.user_spec.specs.declared.effect.Effect.TheVariants.{Sets, Loads, Stores, Calls, Raises}
use Rattle.user_spec.specs.declared.effect.Width.{Width}
use Rattle.user_spec.specs.declared.effect.Width.TheVariants.{One, Two, Four}
use Rattle.user_ctx.specs.Heap.{rights_at, is_heap_page, IsHeap}
use Rattle.user_ctx.proofs.Maps.{lt_or_le}
use Rattle.page_set.proofs.Maps.{get_inserted, get_inserted_other}

-- each page has the same rights, or is mapped as little
pub record Keeps (old new : PageMap) : Type 0 where
  pub each : (q : ℕ) → rights_at new q ≡ rights_at old q

keeps_same : (old new : PageMap) → old ≡ new → Keeps old new
keeps_same old new e = record { each = λ q. sym (ap (λ m. rights_at m q) e) }

keeps_two : (a b c : PageMap) → Keeps a b → Keeps b c → Keeps a c
keeps_two a b c h k = record { each = λ q. k.each q ∙ h.each q }

-- ---- writes

abbrev rights_of : Option Page → Option ℕ
rights_of None = None
rights_of (Some p) = Some p.rights

rights_are : (o : Option Page) (m : PageMap) (q : ℕ) → map.get m q ≡ o → rights_at m q ≡ rights_of o
rights_are None m q e = ap (λ x. let f : Option Page → Option ℕ = rights_of in f x) e
rights_are (Some p) m q e = ap (λ x. let f : Option Page → Option ℕ = rights_of in f x) e

changed_at : (m : PageMap) (n q offset b : ℕ) (o : Option Page) → map.get m n ≡ o → rights_at (changed_page m n (page_with_byte offset b) o) q ≡ rights_at m q
changed_at m n q offset b None e = refl
changed_at m n q offset b (Some p) e =
    elim (eqb_tells q n) as (λ _. rights_at (map.insert m n (page_with_byte offset b p)) q ≡ rights_at m q) [
      | inl h ↦ ap (rights_at (map.insert m n (page_with_byte offset b p))) h.1 ∙ rights_are (Some (page_with_byte offset b p)) (map.insert m n (page_with_byte offset b p)) n (get_inserted m n (page_with_byte offset b p)) ∙ sym (ap (rights_at m) h.1 ∙ rights_are (Some p) m n e)
      | inr h ↦ ap (λ x. let f : Option Page → Option ℕ = rights_of in f x) (get_inserted_other m n q (page_with_byte offset b p) h.1)
    ]

keeps_byte : (m : PageMap) (addr b : ℕ) → Keeps m (with_byte m addr b)
keeps_byte m addr b = record { each = λ q. changed_at m (addr / 4096) q (addr % 4096) b (map.get m (addr / 4096)) refl }

pub keeps_bytes : (m : PageMap) (addr : ℕ) (bs : List ℕ) → Keeps m (with_bytes m addr bs)
keeps_bytes m addr [] = keeps_same m m refl
keeps_bytes m addr (b ∷ bs) = keeps_two m (with_byte m addr b) (with_bytes (with_byte m addr b) ((addr + 1) % 2 ^ 32) bs) (keeps_byte m addr b) (keeps_bytes (with_byte m addr b) ((addr + 1) % 2 ^ 32) bs)

keeps_words : (m : PageMap) (addr : ℕ) (ws : List ℕ) → Keeps m (with_words m addr ws)
unfolding with_words
keeps_words m addr [] = keeps_same m m refl
keeps_words m addr (w ∷ ws) = keeps_two m (with_bytes m addr (bytes_4 w)) (with_words (with_bytes m addr (bytes_4 w)) (sum_of addr 4) ws) (keeps_bytes m addr (bytes_4 w)) (keeps_words (with_bytes m addr (bytes_4 w)) (sum_of addr 4) ws)

ok_ok : (a b : PageMap) → (let r : Result PageMap ℕ = Ok a in r ≡ Ok b) → a ≡ b
ok_ok a b e = cc

err_ok : (a : ℕ) (m : PageMap) → (let r : Result PageMap ℕ = Err a in r ≡ Ok m) → ⊥
err_ok a m e = cc

keeps_granted : (r : Result (List ℕ) ℕ) (m w new : PageMap) → Keeps m w → where_granted r w ≡ Ok new → Keeps m new
keeps_granted (Ok bytes) m w new h e = keeps_two m w new h (keeps_same w new (ok_ok w new e))
keeps_granted (Err a) m w new h e = absurd (err_ok a new e)

keeps_stored : (m new : PageMap) (addr : ℕ) (bs : List ℕ) → stored m addr bs ≡ Ok new → Keeps m new
keeps_stored m new addr bs e = keeps_granted (bytes_at m 2 addr (length bs)) m (with_bytes m addr bs) new (keeps_bytes m addr bs) e

-- ---- instructions

keeps_loaded : (rd : ℕ) (r : Result ℕ ℕ) (c : Core) → Keeps c.pages (with_loaded rd r c).core.pages
keeps_loaded rd (Ok value) c = keeps_same c.pages c.pages refl
keeps_loaded rd (Err addr) c = keeps_same c.pages c.pages refl

keeps_store : (r : Result PageMap ℕ) (c : Core) → ((new : PageMap) → r ≡ Ok new → Keeps c.pages new) → Keeps c.pages (with_stored r c).core.pages
keeps_store (Ok new) c h = h new refl
keeps_store (Err addr) c h = keeps_same c.pages c.pages refl

keeps_width : (width : Width) (m new : PageMap) (addr value : ℕ) → store_as width m addr value ≡ Ok new → Keeps m new
keeps_width One m new addr value e = keeps_stored m new addr (bytes_1 value) e
keeps_width Two m new addr value e = keeps_stored m new addr (bytes_2 value) e
keeps_width Four m new addr value e = keeps_stored m new addr (bytes_4 value) e

keeps_applied : (e : Effect) (c : Core) → Keeps c.pages (applied e c).core.pages
keeps_applied (Sets rd value next) c = keeps_same c.pages c.pages refl
keeps_applied (Loads rd addr form) c = keeps_loaded rd (load_as form c.pages addr) c
keeps_applied (Stores addr value width) c = keeps_store (store_as width c.pages addr value) c (λ new e. keeps_width width c.pages new addr value e)
keeps_applied Calls c = keeps_same c.pages c.pages refl
keeps_applied (Raises signal) c = keeps_same c.pages c.pages refl

keeps_on : (o : Outcome) (x : Core) (k : ℕ) (c d : Core) → Keeps c.pages x.pages → ((x : Core) → ran k x ≡ Some d → Keeps x.pages d.pages) → on_outcome o x (ran k) ≡ Some d → Keeps c.pages d.pages
keeps_on Done x k c d one ih h = keeps_two c.pages x.pages d.pages one (ih x h)
keeps_on Call x k c d one ih h = absurd (none-some d h)
keeps_on (Fault signal) x k c d one ih h = absurd (none-some d h)

keeps_ran : (k : ℕ) (c d : Core) → ran k c ≡ Some d → Keeps c.pages d.pages
keeps_ran zero c d h = keeps_same c.pages d.pages (ap (λ (x : Core). x.pages) (same_Some c d h))
keeps_ran (suc k) c d h = keeps_on (one_instruction c).outcome (one_instruction c).core k c d (keeps_applied (next_effect c.pc (0 ∷ c.registers) c.pages) c) (λ x. keeps_ran k x d) h

-- ---- what is known of the heap

pub heap_kept : (base brk full bare : ℕ) (old new : PageMap) → IsHeap base brk full bare old → Keeps old new → IsHeap base brk full bare new
heap_kept base brk full bare old new h k = record {
  aligned = h.aligned;
  low = h.low;
  high = h.high;
  first = h.first;
  full_most = h.full_most;
  bare_most = h.bare_most;
  mapped = λ q low high. ap is_heap_page (k.each q) ∙ h.mapped q low high;
  free = λ q low high. k.each q ∙ h.free q low high;
}

pub heap_ran : (base brk full bare k : ℕ) (c d : Core) → IsHeap base brk full bare c.pages → ran k c ≡ Some d → IsHeap base brk full bare d.pages
heap_ran base brk full bare k c d h e = heap_kept base brk full bare c.pages d.pages h (keeps_ran k c d e)

pub heap_bytes : (base brk full bare addr : ℕ) (bs : List ℕ) (old new : PageMap) → IsHeap base brk full bare old → new ≡ with_bytes old addr bs → IsHeap base brk full bare new
heap_bytes base brk full bare addr bs old new h e = heap_kept base brk full bare old new h (keeps_two old (with_bytes old addr bs) new (keeps_bytes old addr bs) (keeps_same (with_bytes old addr bs) new (sym e)))

pub heap_words : (base brk full bare addr : ℕ) (ws : List ℕ) (old new : PageMap) → IsHeap base brk full bare old → new ≡ with_words old addr ws → IsHeap base brk full bare new
heap_words base brk full bare addr ws old new h e = heap_kept base brk full bare old new h (keeps_two old (with_words old addr ws) new (keeps_words old addr ws) (keeps_same (with_words old addr ws) new (sym e)))

pub heap_new : (base : ℕ) (pages : PageMap) → base % 4096 ≡ 0 → base ≤ 0x70000000 → IsHeap base base (base / 4096) 0x70000 pages
heap_new base pages al le = record {
  aligned = al;
  low = omega arith;
  high = le;
  first = omega arith;
  full_most = omega arith;
  bare_most = omega arith;
  mapped = λ q low high. absurd (omega arith);
  free = λ q low high. absurd (omega arith);
}

pub lower_bare : (base brk full bare less : ℕ) (pages : PageMap) → IsHeap base brk full bare pages → less ≤ bare → ((q : ℕ) → less ≤ q → q < bare → rights_at pages q ≡ None) → IsHeap base brk full less pages
lower_bare base brk full bare less pages h le f = record {
  aligned = h.aligned;
  low = h.low;
  high = h.high;
  first = h.first;
  full_most = h.full_most;
  bare_most = omega arith;
  mapped = h.mapped;
  free = λ q low high. elim (lt_or_le q bare) as (λ _. rights_at pages q ≡ None) [
    | inl a ↦ f q low a
    | inr a ↦ h.free q a high
  ];
}
