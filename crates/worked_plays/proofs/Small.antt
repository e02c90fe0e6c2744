-- User states of two pages, computed: what they read, write, step and ask.
use Rattle.std.proofs.Common.{◌≡◌, ◌≢◌, ◌⊎◌, inl, inr, ℕ, zero, suc, ◌+◌, ◌*◌, ◌/◌, ◌%◌, ◌^◌, ◌==◌, ◌&&◌, ◌||◌, not, nat_le, Bool, true, false, cond, Option, Some, None, Result, Ok, Err, List, [], ◌∷◌, ◌++◌, slice_index, slice_set, refl, sym, ap, ◌∙◌, subst, arith}
use Rattle.std.specs.Prelude.{is_ok, option_and_then}
use Rattle.std.specs.Result.{result_unwrap_or}
use Rattle.std.specs.Int.{w32, cast_unsigned}
use Rattle.std.specs.FinMap as map
use Rattle.std.specs.Ordering.{nat_cmp}
use Rattle.std.specs.Cmp.{nat_cmp_total}
use Rattle.std.proofs.lemmas.Bool.Decides.{nat_tests, eqb_tells}
use Rattle.call_table.specs.Calls.{is_site_local}
use Rattle.call_table.specs.declared.call.TheConstants.{SIGRETURN}
use Rattle.call_table.specs.declared.limit.TheConstants.{STEPS}
use Rattle.call_table.specs.declared.signal.TheConstants.{SIGSEGV, SIGXCPU}
use Rattle.call_table.specs.declared.table.TheConstants.{RIGHT_READ, RIGHT_WRITE, RIGHT_RUN, FRAME_SIZE}
use Rattle.call_table.specs.declared.request.Need.{Need}
use Rattle.call_table.specs.declared.request.Request.{Request}
use Rattle.call_table.specs.declared.request.Answer.{Answer}
use Rattle.call_table.specs.declared.request.Kind.{Kind}
use Rattle.call_table.specs.declared.request.Kind.TheVariants.{Plain, Fork, Return}
use Rattle.call_table.specs.declared.request.Taken.{Taken}
use Rattle.call_table.specs.declared.request.Taken.TheVariants.{Dies, Enters}
use Rattle.page_set.specs.Pages.{Page, PageMap, byte_of, byte_at, with_front, bytes_along, number_of as number_in, loaded, flat_at, page_with_byte, changed_page, with_byte, with_bytes, bytes_4}
use Rattle.page_set.proofs.Maps.{get_inserted, get_inserted_other}
use Rattle.user_spec.specs.Words.{sum_of}
use Rattle.user_spec.specs.User.{UserState, with_register}
use Rattle.user_spec.specs.declared.effect.Effect.{Effect}
use Rattle.user_spec.specs.declared.effect.Effect.TheVariants.{Sets, Loads, Stores, Calls, Raises}
use Rattle.user_spec.specs.declared.effect.Form.{Form}
use Rattle.user_spec.specs.declared.effect.Form.TheVariants.{SignedByte, SignedHalf, Word, Byte, Half}
use Rattle.user_spec.specs.Instruction.{Core, Ran, fetched_effect, next_effect, with_loaded, load_as, applied, one_instruction}
use Rattle.user_spec.specs.Request.{number_of, args_of, stack_pointer, buffer_of, buffer_address, buffer_bytes, is_read, frame_at, frame_words, frame_word, frame_registers, has_frame_room, with_words, entered, returned, returned_as, call_request, forked}
use Rattle.user_spec.specs.Advance.{Went, Done, AtCall, Faults, advance, went_of, core_of, advanced, on_done, request_of, asked_at}
use Rattle.user_spec.specs.Fits.{entered_by, has_room_at}
use Rattle.worked_plays.specs.Programs.{Memory, image_page, stack_page, pages_of, Small, user_of}

-- ---- reading

abbrev pub page_at : Memory → ℕ → Option Page
page_at m q = cond (q == 524287) (Some (stack_page m.stack)) (cond (q == 16) (Some (image_page m.image)) None)

test_true : (a b : ℕ) → a ≡ b → (a == b) ≡ true
test_true a b e = grind (arith, nat_tests)

test_false : (a b : ℕ) → a ≢ b → (a == b) ≡ false
test_false a b ne = grind (arith, nat_tests)

pub get_page : (m : Memory) (q : ℕ) → map.get (pages_of m) q ≡ page_at m q
get_page m q =
    elim (eqb_tells q 524287) as (λ _. map.get (pages_of m) q ≡ page_at m q) [
      | inl e ↦ ap (map.get (pages_of m)) e.1 ∙ (get_inserted (map.insert map.empty 16 (image_page m.image)) 524287 (stack_page m.stack) ∙ sym (ap (λ (b : Bool). cond b (Some (stack_page m.stack)) (cond (q == 16) (Some (image_page m.image)) None)) (test_true q 524287 e.1)))
      | inr e ↦ get_inserted_other (map.insert map.empty 16 (image_page m.image)) 524287 q (stack_page m.stack) e.1 ∙ (below q ∙ sym (ap (λ (b : Bool). cond b (Some (stack_page m.stack)) (cond (q == 16) (Some (image_page m.image)) None)) (test_false q 524287 e.1)))
    ]
  where
    below : (q : ℕ) → map.get (map.insert (let none : PageMap = map.empty in none) 16 (image_page m.image)) q ≡ cond (q == 16) (Some (image_page m.image)) None
    below q =
        elim (eqb_tells q 16) as (λ _. map.get (map.insert (let none : PageMap = map.empty in none) 16 (image_page m.image)) q ≡ cond (q == 16) (Some (image_page m.image)) None) [
          | inl e ↦ ap (map.get (map.insert (let none : PageMap = map.empty in none) 16 (image_page m.image))) e.1 ∙ (get_inserted map.empty 16 (image_page m.image) ∙ sym (ap (λ (b : Bool). cond b (Some (image_page m.image)) None) (test_true q 16 e.1)))
          | inr e ↦ get_inserted_other map.empty 16 q (image_page m.image) e.1 ∙ (map.get-empty nat_cmp q ∙ sym (ap (λ (b : Bool). cond b (Some (image_page m.image)) None) (test_false q 16 e.1)))
        ]

abbrev pub read_along : (ℕ → ℕ) → Memory → ℕ → ℕ → ℕ → Result (List ℕ) ℕ
read_along next m right addr zero = Ok []
read_along next m right addr (suc n) = with_front (byte_of right (addr % 4096) (page_at m (addr / 4096))) addr (read_along next m right (next addr) n)

along_is : (next : ℕ → ℕ) (m : Memory) (right addr n : ℕ) → bytes_along next (pages_of m) right addr n ≡ read_along next m right addr n
along_is next m right addr zero = refl
along_is next m right addr (suc n) = λ i. with_front (byte_of right (addr % 4096) (get_page m (addr / 4096) i)) addr (along_is next m right (next addr) n i)

abbrev pub wraps : ℕ → ℕ
wraps addr = (addr + 1) % 2 ^ 32

abbrev pub follows : ℕ → ℕ
follows addr = addr + 1

abbrev pub word_at : Memory → ℕ → ℕ → Result ℕ ℕ
word_at m addr right = number_in (read_along wraps m right addr 4)

word_is : (m : Memory) (addr right : ℕ) → loaded (pages_of m) addr 4 right ≡ word_at m addr right
word_is m addr right = ap number_in (along_is wraps m right addr 4)

abbrev pub read_buffer : Memory → Option Need → Result (List ℕ) ℕ
read_buffer m None = Ok []
read_buffer m (Some need) = read_along follows m need.right need.addr need.len

buffer_is : (m : Memory) (o : Option Need) → buffer_bytes (pages_of m) o ≡ read_buffer m o
buffer_is m None = refl
buffer_is m (Some need) = along_is follows m need.right need.addr need.len

abbrev pub word_in : Memory → ℕ → ℕ → ℕ
word_in m at i = result_unwrap_or (word_at m (sum_of at (4 * i)) RIGHT_READ) 0

frame_word_is : (m : Memory) (at i : ℕ) → frame_word (pages_of m) at i ≡ word_in m at i
frame_word_is m at i = ap (λ r. result_unwrap_or r 0) (word_is m (sum_of at (4 * i)) RIGHT_READ)

abbrev pub registers_in : Memory → ℕ → ℕ → ℕ → List ℕ
registers_in m at i zero = []
registers_in m at i (suc n) = word_in m at i ∷ registers_in m at (i + 1) n

frame_registers_are : (m : Memory) (at i n : ℕ) → frame_registers (pages_of m) at i n ≡ registers_in m at i n
unfolding frame_registers
frame_registers_are m at i zero = refl
frame_registers_are m at i (suc n) = λ j. frame_word_is m at i j ∷ frame_registers_are m at (i + 1) n j

abbrev pub room_in : Memory → ℕ → Bool
room_in m sp = is_ok (read_along follows m RIGHT_WRITE (frame_at sp) FRAME_SIZE)

room_is : (m : Memory) (sp : ℕ) → has_frame_room (pages_of m) sp ≡ room_in m sp
unfolding has_frame_room
room_is m sp = ap is_ok (along_is follows m RIGHT_WRITE (frame_at sp) FRAME_SIZE)

-- ---- writing

abbrev pub put_byte : Memory → ℕ → ℕ → Memory
put_byte m addr b = cond (addr / 4096 == 524287) (record m { stack = slice_set m.stack (addr % 4096) b }) (cond (addr / 4096 == 16) (record m { image = slice_set m.image (addr % 4096) b }) m)

same_pages : (m n : PageMap) → ((q : ℕ) → map.get m q ≡ map.get n q) → m ≡ n
same_pages m n e = map.same_map nat_cmp_total map.nat_cmp-IsAntisymmetric m n e

-- a page in the place of another one
stack_put : (m : Memory) (bytes : List ℕ) → map.insert (pages_of m) 524287 (stack_page bytes) ≡ pages_of (record m { stack = bytes })
stack_put m bytes = same_pages _ _ each
  where
    each : (q : ℕ) → map.get (map.insert (pages_of m) 524287 (stack_page bytes)) q ≡ map.get (pages_of (record m { stack = bytes })) q
    each q =
        elim (eqb_tells q 524287) as (λ _. map.get (map.insert (pages_of m) 524287 (stack_page bytes)) q ≡ map.get (pages_of (record m { stack = bytes })) q) [
          | inl e ↦ ap (map.get (map.insert (pages_of m) 524287 (stack_page bytes))) e.1 ∙ (get_inserted (pages_of m) 524287 (stack_page bytes) ∙ sym (ap (map.get (pages_of (record m { stack = bytes }))) e.1 ∙ get_inserted _ 524287 (stack_page bytes)))
          | inr e ↦ get_inserted_other (pages_of m) 524287 q (stack_page bytes) e.1 ∙ (get_inserted_other _ 524287 q (stack_page m.stack) e.1 ∙ sym (get_inserted_other _ 524287 q (stack_page bytes) e.1))
        ]

image_put : (m : Memory) (bytes : List ℕ) → map.insert (pages_of m) 16 (image_page bytes) ≡ pages_of (record m { image = bytes })
image_put m bytes = same_pages _ _ each
  where
    apart : (q : ℕ) → q ≡ 16 → q ≢ 524287
    apart q e f = omega (arith, e, f)

    there : (n : Memory) (q : ℕ) → q ≡ 16 → map.get (pages_of n) q ≡ Some (image_page n.image)
    there n q e = ap (map.get (pages_of n)) e ∙ get_page n 16

    at_16 : (q : ℕ) → q ≡ 16 → map.get (map.insert (pages_of m) 16 (image_page bytes)) q ≡ map.get (pages_of (record m { image = bytes })) q
    at_16 q e = ap (map.get (map.insert (pages_of m) 16 (image_page bytes))) e ∙ (get_inserted (pages_of m) 16 (image_page bytes) ∙ sym (there (record m { image = bytes }) q e))

    at_other : (q : ℕ) → q ≢ 16 → map.get (map.insert (pages_of m) 16 (image_page bytes)) q ≡ map.get (pages_of (record m { image = bytes })) q
    at_other q ne = get_inserted_other (pages_of m) 16 q (image_page bytes) ne ∙ (get_page m q ∙ (ap (λ (b : Bool). cond (q == 524287) (Some (stack_page m.stack)) (cond b (Some (image_page m.image)) None)) (test_false q 16 ne) ∙ sym (get_page (record m { image = bytes }) q ∙ ap (λ (b : Bool). cond (q == 524287) (Some (stack_page m.stack)) (cond b (Some (image_page bytes)) None)) (test_false q 16 ne))))

    each : (q : ℕ) → map.get (map.insert (pages_of m) 16 (image_page bytes)) q ≡ map.get (pages_of (record m { image = bytes })) q
    each q =
        elim (eqb_tells q 16) as (λ _. map.get (map.insert (pages_of m) 16 (image_page bytes)) q ≡ map.get (pages_of (record m { image = bytes })) q) [
          | inl e ↦ at_16 q e.1
          | inr e ↦ at_other q e.1
        ]

byte_is : (m : Memory) (addr b : ℕ) → with_byte (pages_of m) addr b ≡ pages_of (put_byte m addr b)
byte_is m addr b = ap (changed_page (pages_of m) (addr / 4096) (page_with_byte (addr % 4096) b)) (get_page m (addr / 4096)) ∙ go (addr / 4096) (addr % 4096)
  where
    go_at : (q offset : ℕ) (j k : Bool) → (q == 524287) ≡ j → (q == 16) ≡ k → changed_page (pages_of m) q (page_with_byte offset b) (cond j (Some (stack_page m.stack)) (cond k (Some (image_page m.image)) None)) ≡ pages_of (cond j (record m { stack = slice_set m.stack offset b }) (cond k (record m { image = slice_set m.image offset b }) m))
    go_at q offset true k e f = let z : q ≡ 524287 = grind (arith, nat_tests) in ap (λ (n : ℕ). map.insert (pages_of m) n (stack_page (slice_set m.stack offset b))) z ∙ stack_put m (slice_set m.stack offset b)
    go_at q offset false true e f = let z : q ≡ 16 = grind (arith, nat_tests) in ap (λ (n : ℕ). map.insert (pages_of m) n (image_page (slice_set m.image offset b))) z ∙ image_put m (slice_set m.image offset b)
    go_at q offset false false e f = refl

    go : (q offset : ℕ) → changed_page (pages_of m) q (page_with_byte offset b) (page_at m q) ≡ pages_of (cond (q == 524287) (record m { stack = slice_set m.stack offset b }) (cond (q == 16) (record m { image = slice_set m.image offset b }) m))
    go q offset = go_at q offset (q == 524287) (q == 16) refl refl

abbrev pub put_bytes : Memory → ℕ → List ℕ → Memory
put_bytes m addr [] = m
put_bytes m addr (b ∷ bs) = put_bytes (put_byte m addr b) (wraps addr) bs

bytes_are : (m : Memory) (addr : ℕ) (bs : List ℕ) → with_bytes (pages_of m) addr bs ≡ pages_of (put_bytes m addr bs)
bytes_are m addr [] = refl
bytes_are m addr (b ∷ bs) = ap (λ (p : PageMap). with_bytes p (wraps addr) bs) (byte_is m addr b) ∙ bytes_are (put_byte m addr b) (wraps addr) bs

abbrev pub put_words : Memory → ℕ → List ℕ → Memory
put_words m addr [] = m
put_words m addr (w ∷ ws) = put_words (put_bytes m addr (bytes_4 w)) (sum_of addr 4) ws

words_are : (m : Memory) (addr : ℕ) (ws : List ℕ) → with_words (pages_of m) addr ws ≡ pages_of (put_words m addr ws)
unfolding with_words
words_are m addr [] = refl
words_are m addr (w ∷ ws) = ap (λ (p : PageMap). with_words p (sum_of addr 4) ws) (bytes_are m addr (bytes_4 w)) ∙ words_are (put_bytes m addr (bytes_4 w)) (sum_of addr 4) ws

-- ---- steps

abbrev pub effect_at : Small → Effect
effect_at s = cond (s.pc % 4 == 0) (fetched_effect (word_at s.memory s.pc RIGHT_RUN) s.pc (0 ∷ s.registers)) (Raises SIGSEGV)

effect_is : (s : Small) → next_effect s.pc (0 ∷ s.registers) (pages_of s.memory) ≡ effect_at s
effect_is s = ap (λ r. cond (s.pc % 4 == 0) (fetched_effect r s.pc (0 ∷ s.registers)) (Raises SIGSEGV)) (word_is s.memory s.pc RIGHT_RUN)

abbrev pub word_into : ℕ → Result ℕ ℕ → Small → Option Small
word_into rd (Ok value) s = Some (record s { pc = sum_of s.pc 4; registers = with_register s.registers rd value; count = s.count + 1 })
word_into rd (Err addr) s = None

-- what the programs here do: they set registers, and load words
abbrev pub gone : Effect → Small → Option Small
gone (Sets rd value next) s = Some (record s { pc = next; registers = with_register s.registers rd value; count = s.count + 1 })
gone (Loads rd addr Word) s = word_into rd (word_at s.memory addr RIGHT_READ) s
gone _ s = None

abbrev pub one_step : Small → Option Small
one_step s = cond (nat_le STEPS s.count) None (gone (effect_at s) s)

load_goes : (rd : ℕ) (r : Result ℕ ℕ) (s t : Small) → word_into rd r s ≡ Some t → went_of (user_of s) (with_loaded rd r (core_of (user_of s))) ≡ Done (user_of t)
load_goes rd (Ok value) s t e = let same : record s { pc = sum_of s.pc 4; registers = with_register s.registers rd value; count = s.count + 1 } ≡ t = cc in ap (λ (x : Small). Done (user_of x)) same
load_goes rd (Err addr) s t e = absurd cc

effect_goes : (f : Effect) (s t : Small) → gone f s ≡ Some t → went_of (user_of s) (applied f (core_of (user_of s))) ≡ Done (user_of t)
effect_goes (Sets rd value next) s t e = let same : record s { pc = next; registers = with_register s.registers rd value; count = s.count + 1 } ≡ t = cc in ap (λ (x : Small). Done (user_of x)) same
effect_goes (Loads rd addr Word) s t e = ap (λ r. went_of (user_of s) (with_loaded rd r (core_of (user_of s)))) (word_is s.memory addr RIGHT_READ) ∙ load_goes rd (word_at s.memory addr RIGHT_READ) s t e
effect_goes (Loads rd addr SignedByte) s t e = absurd cc
effect_goes (Loads rd addr SignedHalf) s t e = absurd cc
effect_goes (Loads rd addr Byte) s t e = absurd cc
effect_goes (Loads rd addr Half) s t e = absurd cc
effect_goes (Stores addr value width) s t e = absurd cc
effect_goes Calls s t e = absurd cc
effect_goes (Raises signal) s t e = absurd cc

step_goes : (s t : Small) → one_step s ≡ Some t → advance (user_of s) ≡ Done (user_of t)
step_goes s t e = go (nat_le STEPS s.count) e
  where
    go : (b : Bool) → cond b None (gone (effect_at s) s) ≡ Some t → cond b (Faults SIGXCPU) (went_of (user_of s) (one_instruction (core_of (user_of s)))) ≡ Done (user_of t)
    go true f = absurd cc
    go false f = ap (λ (x : Effect). went_of (user_of s) (applied x (core_of (user_of s)))) (effect_is s) ∙ effect_goes (effect_at s) s t f

abbrev pub many_steps : ℕ → Small → Option Small
many_steps zero s = Some s
many_steps (suc k) s = option_and_then (many_steps k) (one_step s)

pub steps_go : (k : ℕ) (s t : Small) → many_steps k s ≡ Some t → advanced k (user_of s) ≡ Some (user_of t)
steps_go zero s t e = let same : s ≡ t = cc in ap (λ (x : Small). let z : Option UserState = Some (user_of x) in z) same
steps_go (suc k) s t e = go (one_step s) refl e (λ x f. steps_go k x t f)
  where
    go : (o : Option Small) → one_step s ≡ o → option_and_then (many_steps k) o ≡ Some t → ((x : Small) → many_steps k x ≡ Some t → advanced k (user_of x) ≡ Some (user_of t)) → on_done (advance (user_of s)) (advanced k) ≡ Some (user_of t)
    go None f h further = absurd cc
    go (Some x) f h further = ap (λ (w : Went). on_done w (advanced k)) (step_goes s x f) ∙ further x h

-- ---- what is asked

abbrev pub number_at : Small → ℕ
number_at s = slice_index s.registers 16

abbrev pub pointer_at : Small → ℕ
pointer_at s = slice_index s.registers 1

abbrev pub pointer_after : Small → ℕ
pointer_after s = cond (number_at s == SIGRETURN) (word_in s.memory (pointer_at s) 2) (pointer_at s)

abbrev pub args_at : Small → List ℕ
args_at s = cond (number_at s == SIGRETURN) (slice_set (args_of (user_of s)) 0 (word_in s.memory (pointer_at s) 32)) (args_of (user_of s))

abbrev pub bytes_at : Small → List ℕ
bytes_at s = cond (is_read (buffer_of (user_of s)) && not (number_at s == SIGRETURN)) (result_unwrap_or (read_buffer s.memory (buffer_of (user_of s))) []) []

abbrev pub call_at : Small → Request
call_at s = record { number = number_at s; args = args_at s; bytes = bytes_at s; room = room_in s.memory (pointer_after s) }

call_is : (s : Small) → call_request (user_of s) ≡ call_at s
call_is s = λ i. record {
  number = number_at s;
  args = cond (number_at s == SIGRETURN) (slice_set (args_of (user_of s)) 0 (frame_word_is s.memory (pointer_at s) 32 i)) (args_of (user_of s));
  bytes = cond (is_read (buffer_of (user_of s)) && not (number_at s == SIGRETURN)) (result_unwrap_or (buffer_is s.memory (buffer_of (user_of s)) i) []) [];
  room = (room_is s.memory (cond (number_at s == SIGRETURN) (frame_word (pages_of s.memory) (pointer_at s) 2) (pointer_at s)) ∙ ap (λ (x : ℕ). room_in s.memory (cond (number_at s == SIGRETURN) x (pointer_at s))) (frame_word_is s.memory (pointer_at s) 2)) i;
}

abbrev pub is_call : Effect → Bool
is_call Calls = true
is_call _ = false

-- a forwarded call whose buffer has its right
abbrev pub asks_at : Small → Option Request
asks_at s = cond (nat_le STEPS s.count) None (cond (is_call (effect_at s)) (cond (is_site_local (number_at s) || not (is_ok (read_buffer s.memory (buffer_of (user_of s))))) None (Some (call_at s))) None)

call_went : (f : Effect) (s : Small) → is_call f ≡ true → (is_site_local (number_at s) || not (is_ok (read_buffer s.memory (buffer_of (user_of s))))) ≡ false → went_of (user_of s) (applied f (core_of (user_of s))) ≡ AtCall
call_went Calls s e local = (λ i. cond (is_site_local (number_at s) || not (is_ok (buffer_is s.memory (buffer_of (user_of s)) i))) (Done (Rattle.user_spec.specs.Advance.counted (Rattle.user_spec.specs.Request.local_call (user_of s)))) AtCall) ∙ ap (λ (b : Bool). cond b (Done (Rattle.user_spec.specs.Advance.counted (Rattle.user_spec.specs.Request.local_call (user_of s)))) AtCall) local
call_went (Sets rd value next) s e local = absurd cc
call_went (Loads rd addr form) s e local = absurd cc
call_went (Stores addr value width) s e local = absurd cc
call_went (Raises signal) s e local = absurd cc

pub at_call : (s : Small) (r : Request) → asks_at s ≡ Some r → (advance (user_of s) ≡ AtCall) × (call_request (user_of s) ≡ r)
at_call s r e = go (nat_le STEPS s.count) (is_call (effect_at s)) (is_site_local (number_at s) || not (is_ok (read_buffer s.memory (buffer_of (user_of s))))) refl refl refl e
  where
    go : (a b c : Bool) → nat_le STEPS s.count ≡ a → is_call (effect_at s) ≡ b → (is_site_local (number_at s) || not (is_ok (read_buffer s.memory (buffer_of (user_of s))))) ≡ c → cond a None (cond b (cond c None (Some (call_at s))) None) ≡ Some r → (advance (user_of s) ≡ AtCall) × (call_request (user_of s) ≡ r)
    go true b c f g h z = absurd cc
    go false false c f g h z = absurd cc
    go false true true f g h z = absurd cc
    go false true false f g h z = (
      ap (λ (b : Bool). cond b (Faults SIGXCPU) (went_of (user_of s) (one_instruction (core_of (user_of s))))) f ∙ (ap (λ (x : Effect). went_of (user_of s) (applied x (core_of (user_of s)))) (effect_is s) ∙ call_went (effect_at s) s g h),
      call_is s ∙ cc,
    )

-- ---- the return, and the entry of a handler

abbrev pub returned_so : Kind → Small → Answer → Small
returned_so Plain s a = record s { memory = put_bytes s.memory (buffer_address (buffer_of (user_of s))) a.bytes; registers = with_register s.registers 10 (cast_unsigned w32 a.value); pc = sum_of s.pc 4 }
returned_so Fork s a = record s { registers = with_register s.registers 10 (cast_unsigned w32 a.value); pc = sum_of s.pc 4 }
returned_so Return s a = record s { pc = word_in s.memory (pointer_at s) 0; registers = registers_in s.memory (pointer_at s) 1 31 }

abbrev pub returned_at : Small → Answer → Small
returned_at s a = returned_so a.kind s a

returned_by : (kind : Kind) (s : Small) (a : Answer) → returned_as kind (user_of s) a ≡ user_of (returned_so kind s a)
returned_by Plain s a = ap (λ (p : PageMap). record (user_of s) { pages = p; registers = with_register s.registers 10 (cast_unsigned w32 a.value); pc = sum_of s.pc 4 }) (bytes_are s.memory (buffer_address (buffer_of (user_of s))) a.bytes)
returned_by Fork s a = refl
returned_by Return s a = λ i. record (user_of s) { pc = frame_word_is s.memory (pointer_at s) 0 i; registers = frame_registers_are s.memory (pointer_at s) 1 31 i }

pub returned_is : (s : Small) (a : Answer) → returned (user_of s) a ≡ user_of (returned_at s a)
returned_is s a = returned_by a.kind s a

abbrev pub forked_at : Small → ℕ → Small
forked_at s child = record s { registers = with_register s.registers 10 0; pc = sum_of s.pc 4; pid = child }

abbrev pub has_room_in : Small → Bool
has_room_in s = room_in s.memory (pointer_at s)

pub room_here : (s : Small) → has_room_at (user_of s) ≡ has_room_in s
room_here s = room_is s.memory (pointer_at s)

abbrev pub entered_at : Small → Taken → Small
entered_at s (Dies signal) = s
entered_at s (Enters signal handler restorer mask) = record s {
  pc = handler;
  registers = with_register (with_register (with_register s.registers 1 restorer) 2 (frame_at (pointer_at s))) 10 signal;
  memory = put_words s.memory (frame_at (pointer_at s)) (frame_words (user_of s) mask);
}

pub entered_is : (s : Small) (t : Taken) → entered_by (user_of s) t ≡ user_of (entered_at s t)
entered_is s (Dies signal) = refl
entered_is s (Enters signal handler restorer mask) =
    ap (λ (p : PageMap). record (user_of s) { pc = handler; registers = with_register (with_register (with_register s.registers 1 restorer) 2 (frame_at (pointer_at s))) 10 signal; pages = p }) (words_are s.memory (frame_at (pointer_at s)) (frame_words (user_of s) mask))
