-- What a call answers fits the process at it.
use Rattle.std.proofs.Common.{◌≡◌, ◌≢◌, ℕ, zero, suc, ◌+◌, ◌==◌, ◌||◌, ◌&&◌, not, List, refl, ap, ◌∙◌, sym, subst, arith, cond, Option, Some, None, Bool, true, false, slice_index, length, ℤ, pos}
use Rattle.std.specs.Option.{option_map}
use Rattle.std.proofs.lemmas.Bool.Decides.{nat_tests}
use Rattle.call_table.specs.Calls.{need_of}
use Rattle.call_table.specs.declared.call.TheConstants.{READ, SIGRETURN}
use Rattle.call_table.specs.declared.table.TheConstants.{RIGHT_WRITE}
use Rattle.call_table.specs.declared.error.TheConstants.{EINTR}
use Rattle.call_table.specs.declared.request.Need.{Need}
use Rattle.call_table.specs.declared.request.Request.{Request}
use Rattle.call_table.specs.declared.request.Answer.{Answer}
use Rattle.call_table.specs.declared.request.Kind.{Kind}
use Rattle.call_table.specs.declared.request.Kind.TheVariants.{Plain, Fork, Return}
use Rattle.user_spec.specs.User.{UserState}
use Rattle.user_spec.specs.Request.{number_of, args_of, buffer_of, stack_pointer, call_request, asked_args}
use Rattle.kernel_spec.specs.Kernel.{KernelState, Called, given, is_live, value_answer}
use Rattle.kernel_spec.specs.Calls.{call_result}
use Rattle.kernel_spec.specs.Answers.{fits_answer as fits_call_answer, fits_kind as fits_call_kind, fits_buffer as fits_call_buffer, fills as fills_call}
use Rattle.kernel_spec.specs.Others.{child_of as child_made, child_after}
use Rattle.kernel_spec.proofs.KernelFacts.{none_at_zero}
use Rattle.kernel_spec.proofs.AnswerFacts.{answer_fits, blocks_is_no_return}
use Rattle.kernel_spec.proofs.CallFacts.{call_leaves}
use Rattle.user_spec.specs.Fits.{fits_answer, fits_kind, fits_buffer, fills, child_of, child_as, positive}
use Rattle.node_machine.specs.Machine.{acted, serve_at}
use Rattle.node_machine.proofs.Users.{Calls, args_kept}

same_number : (a b : ℕ) → (a == b) ≡ true → a ≡ b
same_number a b e = grind (arith, nat_tests)

-- the buffer of a call by the arguments that it hands over
need_same : (u : UserState) → need_of (number_of u) (asked_args u) (stack_pointer u) ≡ buffer_of u
need_same u = go (number_of u == SIGRETURN) refl
  where
    go : (b : Bool) → (number_of u == SIGRETURN) ≡ b → need_of (number_of u) (asked_args u) (stack_pointer u) ≡ need_of (number_of u) (args_of u) (stack_pointer u)
    go true e = let n = same_number (number_of u) SIGRETURN e in ap (λ (m : ℕ). need_of m (asked_args u) (stack_pointer u)) n ∙ sym (ap (λ (m : ℕ). need_of m (args_of u) (stack_pointer u)) n)
    go false e = ap (λ (xs : List ℕ). need_of (number_of u) xs (stack_pointer u)) (args_kept u e)

-- the words of the kernel and those of the process are the same
same_buffer : (number : ℕ) (o : Option Need) (len : ℕ) → fits_buffer number o len ≡ fits_call_buffer number o len
same_buffer number None len = refl
same_buffer number (Some need) len = ap (λ (b : Bool). (len == 0) || ((need.right == RIGHT_WRITE) && b)) (same_fills (number == READ))
  where
    same_fills : (b : Bool) → fills b len need.len ≡ fills_call b len need.len
    same_fills true = refl
    same_fills false = refl

same_kind : (kind : Kind) (u : UserState) (a : Answer) → fits_kind kind u a ≡ fits_call_kind kind (number_of u) (buffer_of u) a
same_kind Plain u a = ap (λ (b : Bool). not (number_of u == SIGRETURN) && b) (same_buffer (number_of u) (buffer_of u) (length a.bytes))
same_kind Fork u a = refl
same_kind Return u a = refl

pub answer_fits_user : (k : KernelState) (p : ℕ) (u : UserState) (r : Request) (c : Called) → Calls u r → call_result k p r ≡ Some c → fits_answer u c.answer ≡ true
answer_fits_user k p u r c calls e =
    same_kind c.answer.kind u c.answer
    ∙ ap (λ (o : Option Need). fits_call_answer (number_of u) o c.answer) (sym (need_same u))
    ∙ answer_fits k p (call_request u) c (stack_pointer u) (ap (call_result k p) (sym calls.is) ∙ e)

none_mapped : (o : Option Called) → option_map acted o ≡ None → o ≡ None
none_mapped None e = refl
none_mapped (Some c) e = absurd cc

neither : (a b : Bool) → a ≡ false → b ≡ false → (a || b) ≡ false
neither true b e f = absurd cc
neither false b e f = f

is_other : (n : ℕ) → n ≢ 0 → (n == 0) ≡ false
is_other n ne = go (n == 0) refl
  where
    go : (b : Bool) → (n == 0) ≡ b → b ≡ false
    go true e = absurd (ne (same_number n 0 e))
    go false e = refl

not_zero : (k : KernelState) (p : ℕ) → is_live k p ≡ true → p ≢ 0
not_zero k p live e = let z : true ≡ false = sym live ∙ ap (is_live k) e ∙ none_at_zero k in cc

-- what the machine serves of a live process at a call is what the kernel does
pub serve_is : (k : KernelState) (p : ℕ) (r : Request) → is_live k p ≡ true → r.number ≢ 0 → serve_at k p r ≡ option_map acted (call_result k p r)
serve_is k p r live number = ap (λ (b : Bool). cond b None (option_map acted (call_result k p r))) (neither (p == 0) (r.number == 0) (is_other p (not_zero k p live)) (is_other r.number number))

empty_fits : (number : ℕ) (o : Option Need) → fits_buffer number o 0 ≡ true
empty_fits number None = refl
empty_fits number (Some need) = refl

both : (a b : Bool) → a ≡ false → b ≡ true → (not a && b) ≡ true
both true b e f = absurd cc
both false b e f = f

pub broken_fits : (k : KernelState) (p : ℕ) (u : UserState) (r : Request) → is_live k p ≡ true → Calls u r → r.number ≢ 0 → serve_at k p r ≡ None → fits_answer u (value_answer EINTR) ≡ true
broken_fits k p u r live calls number blocked =
    let none : call_result k p r ≡ None = none_mapped (call_result k p r) (sym (serve_is k p r live number) ∙ blocked) in
    let same : (number_of u == SIGRETURN) ≡ (r.number == SIGRETURN) = ap (λ (x : Request). x.number == SIGRETURN) (sym calls.is) in
    both (number_of u == SIGRETURN) (fits_buffer (number_of u) (buffer_of u) 0) (same ∙ blocks_is_no_return k p r none) (empty_fits (number_of u) (buffer_of u))

-- the child that an answer tells is the one that the kernel made
pub child_is : (k : KernelState) (p : ℕ) (r : Request) (c : Called) → call_result k p r ≡ Some c → child_of c.answer ≡ child_made k c
child_is k p r c e = go c.answer.kind (λ f. (call_leaves k p r c e).told (given k + 1) f)
  where
    next : given k + 1 ≡ suc (given k)
    next = omega arith

    go : (kind : Kind) → (child_after kind (given k) ≡ Some (given k + 1) → c.answer.value ≡ pos (given k + 1)) → child_as kind c.answer.value ≡ child_after kind (given k)
    go Plain told = refl
    go Fork told = ap positive (told refl) ∙ (ap (λ (n : ℕ). positive (pos n)) next ∙ ap (λ (n : ℕ). let o : Option ℕ = Some n in o) (sym next))
    go Return told = refl
