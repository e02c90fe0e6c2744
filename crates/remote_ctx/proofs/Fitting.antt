-- What fits a process that waits.
use Rattle.std.proofs.Common.{◌≡◌, ◌&&◌, Bool, true, false, Option, Some, None, refl, ap, ◌∙◌, sym}
use Rattle.call_table.specs.declared.request.Answer.{Answer}
use Rattle.call_table.specs.declared.request.Taken.{Taken}
use Rattle.call_table.specs.declared.request.Taken.TheVariants.{Dies, Enters}
use Rattle.call_forward.specs.declared.message.Done.{Done}
use Rattle.user_spec.specs.User.{UserState}
use Rattle.user_spec.specs.Advance.{request_of}
use Rattle.user_spec.specs.Fits.{forwards, fits_answer, given_by, fits_given, fits_entered, has_room_at}
use Rattle.remote_ctx.specs.declared.context.Stance.{Stance}
use Rattle.remote_ctx.specs.declared.context.Stance.TheVariants.{Running, Waiting, Asking}
use Rattle.remote_ctx.specs.Acting.{enters, is_possible, fits_done, fits_stance}

right_true : (a b : Bool) → (a && b) ≡ true → b ≡ true
right_true true b h = h
right_true false b h = absurd (let z : false ≡ true = h in cc)

-- an answer that fits is one that the call can get
pub given_is_possible : (pause : Bool) (u : UserState) (answer : Option Answer) → fits_given pause u answer ≡ true → is_possible u answer ≡ true
given_is_possible pause u None h = refl
given_is_possible true u (Some a) h = absurd (let z : false ≡ true = h in cc)
given_is_possible false u (Some a) h = right_true (forwards (request_of u)) (fits_answer u a) h

entered_not : (u : UserState) (taken : Option Taken) → enters taken ≡ false → fits_entered u taken ≡ true
entered_not u None h = refl
entered_not u (Some (Dies signal)) h = refl
entered_not u (Some (Enters signal handler restorer mask)) h = absurd (let z : true ≡ false = h in cc)

entered_there : (u : UserState) (taken : Option Taken) → enters taken ≡ true → fits_entered u taken ≡ has_room_at u
entered_there u None h = absurd (let z : false ≡ true = h in cc)
entered_there u (Some (Dies signal)) h = absurd (let z : false ≡ true = h in cc)
entered_there u (Some (Enters signal handler restorer mask)) h = refl

-- no room is wanted where no handler is entered
pub enters_not : (pause : Bool) (u : UserState) (done : Done) → fits_given pause u done.answer ≡ true → enters done.taken ≡ false → true ≡ fits_done pause u done
enters_not pause u done g h = sym (ap (λ b. b && fits_entered (given_by u done.answer) done.taken) g ∙ entered_not (given_by u done.answer) done.taken h)

pub enters_there : (pause : Bool) (u : UserState) (done : Done) (room : Bool) → fits_given pause u done.answer ≡ true → enters done.taken ≡ true → room ≡ has_room_at (given_by u done.answer) → room ≡ fits_done pause u done
enters_there pause u done room g h r = r ∙ sym (ap (λ b. b && fits_entered (given_by u done.answer) done.taken) g ∙ entered_there (given_by u done.answer) done.taken h)

-- what fits leaves room for a handler that is entered
done_enters : (pause : Bool) (u : UserState) (done : Done) → fits_done pause u done ≡ true → fits_entered (given_by u done.answer) done.taken ≡ true
done_enters pause u done h = right_true (fits_given pause u done.answer) (fits_entered (given_by u done.answer) done.taken) h

pub stance_enters : (s : Stance) (u : UserState) (done : Done) → fits_stance s u done ≡ true → fits_entered (given_by u done.answer) done.taken ≡ true
stance_enters Running u done h = absurd (let z : false ≡ true = h in cc)
stance_enters (Waiting pause kept) u done h = done_enters pause u done h
stance_enters (Asking to line) u done h = absurd (let z : false ≡ true = h in cc)
