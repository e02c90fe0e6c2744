-- What a process that is hosted sends home, what pokes it, and how it moves and is answered.
use Rattle.std.proofs.Common.{◌≡◌, ℕ, ◌==◌, ◌&&◌, cond, arith, Bool, true, false, Option, Some, None, IsSome, List, [], ◌∷◌, refl, sym, ap, ◌∙◌, subst, unwrap_or, is_none}
use Rattle.std.specs.Option.{option_map}
use Rattle.std.proofs.lemmas.Bool.Decides.{nat_tests}
use Rattle.call_table.specs.declared.request.Request.{Request}
use Rattle.node_event.specs.declared.event.What.{What}
use Rattle.node_event.specs.declared.event.What.TheVariants as what
use Rattle.call_forward.specs.declared.acted.Acted.{Acted}
use Rattle.call_forward.specs.declared.message.Done.{Done}
use Rattle.call_forward.specs.declared.message.Message.TheVariants.{Call, Pause}
use Rattle.user_spec.specs.User.{UserState}
use Rattle.user_spec.specs.Request.{forked}
use Rattle.remote_ctx.specs.declared.context.Context.{Context}
use Rattle.remote_ctx.specs.declared.context.KeptMove.{KeptMove}
use Rattle.remote_ctx.specs.declared.context.Stance.{Stance}
use Rattle.remote_ctx.specs.declared.context.Stance.TheVariants.{Running, Waiting, Asking}
use Rattle.remote_ctx.specs.Hosted.{lookup, Puts, Changes, is_pid, runs_as, pages_of}
use Rattle.remote_ctx.specs.Acting.{Posted, fresh, standing, standing_as, keeping_as, keeping, is_asking, holds_for, asks_at, stance_of, poked_as, asked_of, room_of, Sends, Heeds, is_awake, poked_context, PokedBy, with_replied, fits_done, child_in, is_new_child, fits_stance, fits_here, fits_reply, kept_move, kept_of, resumed_stance, resumed_as, got_context, Finishes, child_user, born, Bears, what_of, mail_of, GotOn, Gets, TakenOut, TakesOut, Leaves}

some_or_none : (c : Context) (o : Option Context) → o ≡ Some c → o ≡ None → ⊥
some_or_none c o h k = let z : Some c ≡ None = sym h ∙ k in cc

true_or_false : (b : Bool) → b ≡ true → b ≡ false → ⊥
true_or_false b h k = let z : true ≡ false = sym h ∙ k in cc

-- ---- who is here

pub runs_here : (o : Option Context) → runs_as o ≡ true → IsSome o
runs_here None h = absurd (let z : false ≡ true = h in cc)
runs_here (Some c) h = refl

pub holds_here : (test : Stance → Bool) (o : Option Context) → holds_for test o ≡ true → IsSome o
holds_here test None h = absurd (let z : false ≡ true = h in cc)
holds_here test (Some c) h = refl

pub holds_stance : (test : Stance → Bool) (o : Option Context) → holds_for test o ≡ true → stance_of o ≡ None → ⊥
holds_stance test None h e = let z : false ≡ true = h in cc
holds_stance test (Some c) h e = let z : Some c.state ≡ None = e in cc

pub here_stance : (o : Option Context) → IsSome o → stance_of o ≡ None → ⊥
here_stance None h e = let z : false ≡ true = h in cc
here_stance (Some c) h e = let z : Some c.state ≡ None = e in cc

same_stance : (o : Option Context) (c : Context) (state : Stance) → o ≡ Some c → Some state ≡ stance_of o → state ≡ c.state
same_stance o c state h e = let z : Some state ≡ Some c.state = e ∙ ap stance_of h in cc

-- ---- a context that stands otherwise

pub stands_as : (vs ys : List Context) (pid : ℕ) (poked : Bool) (state : Stance) → poked ≡ poked_as (lookup pid vs) → Changes pid (standing poked state) vs ys → Changes pid (standing_as state) vs ys
stands_as vs ys pid poked state p r = record {
  context = r.context;
  here = r.here;
  puts = subst (λ b. Puts pid (Some (standing b state r.context)) vs ys) (p ∙ ap poked_as r.here) r.puts;
}

pub keeps_as : (vs ys : List Context) (pid to line : ℕ) (state next : Stance) → Some state ≡ stance_of (lookup pid vs) → next ≡ keeping_as state to line → Changes pid (standing_as next) vs ys → Changes pid (keeping to line) vs ys
keeps_as vs ys pid to line state next e n r = record {
  context = r.context;
  here = r.here;
  puts = subst (λ s. Puts pid (Some (standing_as s r.context)) vs ys) (n ∙ ap (λ s. keeping_as s to line) (same_stance (lookup pid vs) r.context state r.here e)) r.puts;
}

pub pokes_as : (vs ys : List Context) (pid : ℕ) (state : Stance) → Some state ≡ stance_of (lookup pid vs) → Changes pid (standing true state) vs ys → Changes pid poked_context vs ys
pokes_as vs ys pid state e r = record {
  context = r.context;
  here = r.here;
  puts = subst (λ s. Puts pid (Some (standing true s r.context)) vs ys) (same_stance (lookup pid vs) r.context state r.here e) r.puts;
}

pub marks_as : (vs ys : List Context) (pid : ℕ) → holds_for is_awake (lookup pid vs) ≡ true → Changes pid poked_context vs ys → PokedBy true pid vs ys
marks_as vs ys pid h r = record { changes = r; awake = sym (ap (holds_for is_awake) r.here) ∙ h }

-- ---- what goes home

pub sends_as : (vs ys : List Context) (pid : ℕ) (request : Request) (mail : Posted) → Some request ≡ asked_of (lookup pid vs) → Changes pid (standing_as (Waiting false None)) vs ys → mail ≡ (0, Call pid request) ∷ [] → Sends (record { what = what.Sent pid request.number; mail = mail }) pid vs ys
sends_as vs ys pid request mail asked r e = record {
  changes = r;
  request = request;
  asks = sym (ap asked_of r.here) ∙ sym asked;
  what = refl;
  mail = e;
}

pub heeds_as : (vs ys : List Context) (pid : ℕ) (room : Bool) (mail : Posted) → room ≡ room_of (lookup pid vs) → Changes pid (standing false (Waiting true None)) vs ys → mail ≡ (0, Pause pid room) ∷ [] → Heeds (record { what = what.Heed pid; mail = mail }) pid vs ys
heeds_as vs ys pid room mail here r e = record {
  changes = r;
  what = refl;
  mail = e ∙ ap (λ b. (0, Pause pid b) ∷ []) (here ∙ ap room_of r.here);
}

-- ---- a process that leaves

pub leaves_as : (vs ys : List Context) (pid : ℕ) (c : Context) → asks_at pid vs ≡ true → TakenOut c pid vs ys → Leaves c.user c.hops pid vs ys
leaves_as vs ys pid c h t = record {
  context = c;
  here = t.here;
  asks = sym (ap (holds_for is_asking) t.here) ∙ h;
  user_is = refl;
  hops_is = refl;
  puts = t.puts;
}

pub asks_here : (vs : List Context) (pid : ℕ) → asks_at pid vs ≡ true → lookup pid vs ≡ None → ⊥
asks_here vs pid h e = let z : false ≡ true = sym (ap (holds_for is_asking) e) ∙ h in cc

-- ---- a reply

pub fits_is_here : (o : Option Context) (done : Done) → fits_here o done ≡ true → IsSome o
fits_is_here None done h = absurd (let z : false ≡ true = h in cc)
fits_is_here (Some c) done h = refl

pub fits_not_none : (o : Option Context) (done : Done) → fits_here o done ≡ true → o ≡ None → ⊥
fits_not_none None done h e = let z : false ≡ true = h in cc
fits_not_none (Some c) done h e = let z : Some c ≡ None = e in cc

-- the place of a pid after one change of it
there_after : (vs ms : List Context) (pid : ℕ) (c : Context) → Puts pid (Some c) vs ms → lookup pid ms ≡ Some c
there_after vs ms pid c puts = puts.each pid ∙ ap (λ b. cond b (Some c) (lookup pid vs)) (let e : (pid == pid) ≡ true = grind (arith, nat_tests) in e)

pub changed_here : (vs ms : List Context) (pid : ℕ) (change : Context → Context) → Changes pid change vs ms → IsSome (lookup pid ms)
changed_here vs ms pid change r = subst IsSome (sym (there_after vs ms pid (change r.context) r.puts)) refl

cond_twice : (b : Bool) (x y z : Option Context) → cond b x (cond b y z) ≡ cond b x z
cond_twice true x y z = refl
cond_twice false x y z = refl

puts_twice : (vs ms ys : List Context) (pid : ℕ) (c d : Option Context) → Puts pid c vs ms → Puts pid d ms ys → Puts pid d vs ys
puts_twice vs ms ys pid c d p q = record { each = λ k. q.each k ∙ ap (λ o. cond (k == pid) d o) (p.each k) ∙ cond_twice (k == pid) d c (lookup k vs) }

-- a reply, and then a new stance
pub resumes_as : (vs ms ys : List Context) (pid : ℕ) (kept : Option KeptMove) (done : Done) (state : Stance) → state ≡ resumed_stance kept → Changes pid (with_replied done) vs ms → Changes pid (standing done.more state) ms ys → Changes pid (resumed_as kept done) vs ys
resumes_as vs ms ys pid kept done state e r s =
    let same : s.context ≡ with_replied done r.context = let z : Some s.context ≡ Some (with_replied done r.context) = sym s.here ∙ there_after vs ms pid (with_replied done r.context) r.puts in cc in
    record {
      context = r.context;
      here = r.here;
      puts = puts_twice vs ms ys pid (Some (with_replied done r.context)) (Some (resumed_as kept done r.context)) r.puts
          (subst (λ c. Puts pid (Some (standing done.more (resumed_stance kept) c)) ms ys) same (subst (λ x. Puts pid (Some (standing done.more x s.context)) ms ys) e s.puts));
    }

pub ends_as : (vs ys : List Context) (pid : ℕ) (kept : Option KeptMove) (done : Done) (c : Context) → done.ended ≡ true → TakenOut c pid vs ys → Finishes pid kept done vs ys
ends_as vs ys pid kept done c e t = record {
  context = c;
  here = t.here;
  puts = subst (λ b. Puts pid (cond b None (Some (resumed_as kept done c))) vs ys) (sym e) t.puts;
}

-- whoever fits is here to be taken out
pub ends_by : (vs ys : List Context) (pid : ℕ) (kept : Option KeptMove) (done : Done) (r : Option Context) → fits_here (lookup pid vs) done ≡ true → done.ended ≡ true → TakesOut r pid vs ys → Finishes pid kept done vs ys
ends_by vs ys pid kept done None fits e t = absurd (fits_not_none (lookup pid vs) done fits t.0)
ends_by vs ys pid kept done (Some c) fits e t = ends_as vs ys pid kept done c e t

pub goes_on : (vs ys : List Context) (pid : ℕ) (kept : Option KeptMove) (done : Done) → done.ended ≡ false → Changes pid (resumed_as kept done) vs ys → Finishes pid kept done vs ys
goes_on vs ys pid kept done e r = record {
  context = r.context;
  here = r.here;
  puts = subst (λ b. Puts pid (cond b None (Some (resumed_as kept done r.context))) vs ys) (sym e) r.puts;
}

-- ---- a child

pub bears_none : (vs : List Context) (pid : ℕ) → Bears (lookup pid vs) None vs vs
bears_none vs pid = record { each = λ q. refl }

born_of : (child : ℕ) (o : Option Context) (u : UserState) → Some u ≡ child_user child o → (Some (fresh u 0) ≡ born (Some child) o) × (u.pid ≡ child)
born_of child None u e = absurd (let z : Some u ≡ None = e in cc)
born_of child (Some c) u e = let z : u ≡ forked c.user child = cc in (ap (λ x. Some (fresh x 0)) z, ap (λ (x : UserState). x.pid) z)

no_user : (child : ℕ) (o : Option Context) → None ≡ child_user child o → o ≡ None
no_user child None e = refl
no_user child (Some c) e = absurd (let z : None ≡ Some (forked c.user child) = e in cc)

turned : (a b : ℕ) → (a == b) ≡ (b == a)
turned a b = grind (arith, nat_tests)

pub bears_child : (vs ys : List Context) (pid child : ℕ) (u : UserState) → Some u ≡ child_user child (lookup pid vs) → Puts u.pid (Some (fresh u 0)) vs ys → Bears (lookup pid vs) (Some child) vs ys
bears_child vs ys pid child u e puts =
    let b = born_of child (lookup pid vs) u e in
    record { each = λ q. puts.each q ∙ ap (λ (p : ℕ). cond (q == p) (Some (fresh u 0)) (lookup q vs)) b.1 ∙ ap (λ o. cond (q == child) o (lookup q vs)) b.0 ∙ ap (λ t. cond t (born (Some child) (lookup pid vs)) (lookup q vs)) (turned q child) }

absent_is : (o : Option Context) → is_none o ≡ true → o ≡ None
absent_is None h = refl
absent_is (Some c) h = absurd (let z : false ≡ true = h in cc)

pub child_absent : (vs : List Context) (pid child : ℕ) (u : UserState) → Some u ≡ child_user child (lookup pid vs) → is_new_child (Some child) vs ≡ true → lookup u.pid vs ≡ None
child_absent vs pid child u e h = let b = born_of child (lookup pid vs) u e in ap (λ (p : ℕ). lookup p vs) b.1 ∙ absent_is (lookup child vs) h

-- where the process is not here, nothing is born
pub bears_absent : (vs : List Context) (pid child : ℕ) → None ≡ child_user child (lookup pid vs) → is_new_child (Some child) vs ≡ true → Bears (lookup pid vs) (Some child) vs vs
bears_absent vs pid child e h = record { each = λ q. go q (child == q) refl }
  where
    none : born (Some child) (lookup pid vs) ≡ None
    none = ap (born (Some child)) (no_user child (lookup pid vs) e)

    go : (q : ℕ) (b : Bool) → (child == q) ≡ b → lookup q vs ≡ cond b (born (Some child) (lookup pid vs)) (lookup q vs)
    go q true k = let same : child ≡ q = grind (arith, nat_tests) in ap (λ (p : ℕ). lookup p vs) (sym same) ∙ absent_is (lookup child vs) h ∙ sym none
    go q false k = refl

-- ---- all of it

left_true : (a b : Bool) → (a && b) ≡ true → a ≡ true
left_true true b h = refl
left_true false b h = absurd (let z : false ≡ true = h in cc)

right_true : (a b : Bool) → (a && b) ≡ true → b ≡ true
right_true true b h = h
right_true false b h = absurd (let z : false ≡ true = h in cc)

pub reply_here : (vs : List Context) (pid : ℕ) (done : Done) → fits_reply pid done vs ≡ true → fits_here (lookup pid vs) done ≡ true
reply_here vs pid done h = left_true _ _ h

pub reply_child : (vs : List Context) (pid : ℕ) (done : Done) → fits_reply pid done vs ≡ true → is_new_child (child_in done.answer) vs ≡ true
reply_child vs pid done h = right_true _ _ h

-- the child is another process
not_child : (vs : List Context) (pid : ℕ) (c : Context) (child : Option ℕ) → lookup pid vs ≡ Some c → is_new_child child vs ≡ true → is_pid child pid ≡ false
not_child vs pid c None h n = refl
not_child vs pid c (Some child) h n = go (child == pid) refl
  where
    go : (b : Bool) → (child == pid) ≡ b → b ≡ false
    go true e = absurd (let same : child ≡ pid = grind (arith, nat_tests) in some_or_none c (lookup pid vs) h (ap (λ (p : ℕ). lookup p vs) (sym same) ∙ absent_is (lookup child vs) n))
    go false e = refl

-- so its birth leaves the parent
pub still_there : (vs ms : List Context) (pid : ℕ) (child : Option ℕ) → IsSome (lookup pid vs) → is_new_child child vs ≡ true → Bears (lookup pid vs) child vs ms → lookup pid ms ≡ lookup pid vs
still_there vs ms pid child some n b = go (lookup pid vs) refl some
  where
    go : (o : Option Context) → lookup pid vs ≡ o → IsSome o → lookup pid ms ≡ lookup pid vs
    go None e s = absurd (let z : false ≡ true = s in cc)
    go (Some c) e s = b.each pid ∙ ap (λ t. cond t (born child (lookup pid vs)) (lookup pid vs)) (not_child vs pid c child e n)

waits_in : (s : Stance) (u : UserState) (done : Done) → fits_stance s u done ≡ true → (pause : Bool) × (s ≡ Waiting pause (kept_move s)) × (fits_done pause u done ≡ true)
waits_in Running u done h = absurd (let z : false ≡ true = h in cc)
waits_in (Waiting pause kept) u done h = (pause, refl, h)
waits_in (Asking to line) u done h = absurd (let z : false ≡ true = h in cc)

-- what a process needs after a reply
need_after : (vs ys : List Context) (pid : ℕ) (c : Context) (kept : Option KeptMove) (done : Done) (need : ℕ) → Puts pid (got_context kept done c) vs ys → need ≡ unwrap_or (option_map pages_of (lookup pid ys)) 0 → mail_of pid kept done.ended need ≡ mail_of pid kept done.ended (pages_of (resumed_as kept done c))
need_after vs ys pid c kept done need puts is = go kept done.ended refl
  where
    here : lookup pid ys ≡ got_context kept done c
    here = puts.each pid ∙ ap (λ b. cond b (got_context kept done c) (lookup pid vs)) (let e : (pid == pid) ≡ true = grind (arith, nat_tests) in e)

    go : (k : Option KeptMove) (b : Bool) → done.ended ≡ b → mail_of pid k b need ≡ mail_of pid k b (pages_of (resumed_as kept done c))
    go None b e = refl
    go (Some move) true e = refl
    go (Some move) false e = ap (λ n. mail_of pid (Some move) false n) (is ∙ ap (λ o. unwrap_or (option_map pages_of o) 0) (here ∙ ap (λ b. let o : Option Context = cond b None (Some (resumed_as kept done c)) in o) e))

gets_fit : (vs ys : List Context) (pid : ℕ) (done : Done) (acted : Acted) → fits_reply pid done vs ≡ true → GotOn acted pid done vs ys → Gets acted pid done vs ys
gets_fit vs ys pid done acted h g = record { fits = λ _. g; strange = λ n. absurd (true_or_false _ h n) }

pub got_as : (vs ms ys : List Context) (pid : ℕ) (kept : Option KeptMove) (child : Option ℕ) (done : Done) (need : ℕ) (event : What) (mail : Posted)
    → fits_reply pid done vs ≡ true → kept ≡ kept_of (lookup pid vs) → child ≡ child_in done.answer → Bears (lookup pid vs) child vs ms → Finishes pid kept done ms ys
    → need ≡ unwrap_or (option_map pages_of (lookup pid ys)) 0 → event ≡ what_of pid kept child done.ended → mail ≡ mail_of pid kept done.ended need
    → Gets (record { what = event; mail = mail }) pid done vs ys
got_as vs ms ys pid kept child done need event mail fits is child_is bears finishes need_is event_is mail_is =
    let here = reply_here vs pid done fits in
    let new = reply_child vs pid done fits in
    let births : Bears (lookup pid vs) (child_in done.answer) vs ms = subst (λ o. Bears (lookup pid vs) o vs ms) child_is bears in
    let c = finishes.context in
    let at : lookup pid vs ≡ Some c = sym (still_there vs ms pid (child_in done.answer) (fits_is_here (lookup pid vs) done here) new births) ∙ finishes.here in
    let waits = waits_in c.state c.user done (ap (λ o. fits_here o done) (sym at) ∙ here) in
    let move : kept ≡ kept_move c.state = is ∙ ap kept_of at in
    gets_fit vs ys pid done (record { what = event; mail = mail }) fits (record {
      context = c;
      pause = waits.0;
      move = kept;
      here = at;
      waits = waits.1 ∙ ap (λ k. Waiting waits.0 k) (sym move);
      fits = waits.2;
      child = new;
      what = event_is ∙ ap (λ o. what_of pid kept o done.ended) child_is;
      mail = mail_is ∙ need_after ms ys pid c kept done need finishes.puts need_is;
      puts = record { each = λ q. finishes.puts.each q ∙ ap (λ o. cond (q == pid) (got_context kept done c) o) (births.each q ∙ ap (λ o. cond (is_pid (child_in done.answer) q) (born (child_in done.answer) o) (lookup q vs)) at) };
    })

-- who fits still does once the child is here
pub fits_still : (vs ms : List Context) (pid : ℕ) (child : Option ℕ) (done : Done) → fits_reply pid done vs ≡ true → child ≡ child_in done.answer → Bears (lookup pid vs) child vs ms → fits_here (lookup pid ms) done ≡ true
fits_still vs ms pid child done fits is bears =
    let here = reply_here vs pid done fits in
    ap (λ o. fits_here o done) (still_there vs ms pid child (fits_is_here (lookup pid vs) done here) (ap (λ o. is_new_child o vs) is ∙ reply_child vs pid done fits) bears) ∙ here
