-- What a node does with a reply from home is a turn by the laws.
use Rattle.std.proofs.Common.{◌≡◌, ◌≢◌, ◌⊎◌, inl, inr, ℕ, zero, suc, ◌+◌, ◌<◌, ◌≤◌, ◌==◌, ◌&&◌, cond, not, Bool, true, false, Option, Some, None, List, [], ◌∷◌, map, length, refl, sym, ap, ◌∙◌, subst, arith}
use Rattle.std.specs.Prelude.{is_none, nat_le}
use Rattle.std.specs.Bool.{MatchBool}
use Rattle.std.proofs.lemmas.Bool.Decides.{nat_tests}
use Rattle.kernel_spec.specs.Kernel.{given}
use Rattle.protocol.proofs.Talk.{numbers_same, same_numbers}
use Rattle.node_core.specs.Kinds.{OnHosted, IsStrange, HearsReply, is_stray}
use Rattle.std.specs.Option.{option_map}
use Rattle.call_table.specs.declared.request.Answer.{Answer}
use Rattle.call_table.specs.declared.request.Request.{Request}
use Rattle.call_table.specs.declared.request.Taken.{Taken}
use Rattle.call_forward.specs.declared.acted.Acted.{Acted}
use Rattle.call_forward.specs.declared.message.Done as code_done
use Rattle.call_forward.specs.declared.message.Message.TheVariants as message
use Rattle.user_spec.specs.User.{UserState, need_of_user}
use Rattle.user_spec.specs.Advance.{request_of}
use Rattle.user_spec.specs.Fits as user_fits
use Rattle.remote_ctx.specs.declared.context.Context as code_context
use Rattle.remote_ctx.specs.declared.context.KeptMove.{KeptMove}
use Rattle.remote_ctx.specs.declared.context.Stance.{Stance}
use Rattle.remote_ctx.specs.declared.context.Stance.TheVariants as stance
use Rattle.remote_ctx.specs.Hosted.{lookup, pages_of}
use Rattle.remote_ctx.specs.Acting as acting
use Rattle.protocol.specs.Deeds.{Deed, deed_of, Got}
use Rattle.protocol.specs.Notes.{State, Running, Waiting, Asking, Body, Context, context, Post, letter, Reply, Done}
use Rattle.protocol.specs.Home.{give, enter, after, returned, forwards, fits_given, fits_entered, fits_done}
use Rattle.protocol.specs.Does.{Does, Unfit, NotWaiting, WrongDone, WrongChild, got_state, got_context, got_posts, kept_told, child_context}
use Rattle.protocol.specs.Odd.{stamp_end}
use Rattle.run_laws.specs.Carried.{IsUsual}
use Rattle.node_machine.specs.Plan.{Plan}
use Rattle.node_machine.specs.Machine.{Policy, machine}
use Rattle.node_core.specs.declared.node.Node.{Node}
use Rattle.node_core.specs.Letters.{posted_by}
use Rattle.node_core.specs.Locals.{local, slot_of, body_of, context_of, state_of, kept_of, done_of, child_in, note_of, post_of}
use Rattle.node_core.specs.Suits.{Suits}
use Rattle.node_core.proofs.Settling.{Acts, Hears, Fits, Misfits, at_clock, turn_at}
use Rattle.node_core.proofs.Slots.{slots_put_both}
use Rattle.node_core.proofs.Contexts.{suits_hosted}

-- ---- pids that home gave

not_given : (c n : ℕ) → not (nat_le 1 c && nat_le c n) ≡ true → (c ≡ 0) ⊎ (n < c)
not_given zero n e = inl refl
not_given (suc c) n e = inr (grind (arith, nat_tests, e))

known_not : (c n : ℕ) → not (nat_le 1 c && nat_le c n) ≡ false → (c ≡ 0) ⊎ (n < c) → ⊥
known_not c n e (inl z) = let f : not (nat_le 1 0 && nat_le 0 n) ≡ false = subst (λ (m : ℕ). not (nat_le 1 m && nat_le m n) ≡ false) z e in absurd cc
known_not c n e (inr h) = grind (arith, nat_tests, e, h)

module _ (policy : Policy) (plan : Plan) where
  -- ---- what a reply makes of a user state, and whether it fits

  given_is : (u : UserState) (o : Option Answer) → user_fits.given_by u o ≡ give (machine policy plan) u o
  given_is u None = refl
  given_is u (Some a) = refl

  entered_is : (u : UserState) (o : Option Taken) → user_fits.taken_by u o ≡ enter (machine policy plan) u o
  entered_is u None = refl
  entered_is u (Some t) = refl

  replied_is : (u : UserState) (d : code_done.Done) → acting.replied u d ≡ after (machine policy plan) u (done_of policy plan d)
  replied_is u d = ap (λ (x : UserState). user_fits.taken_by x d.taken) (given_is u d.answer) ∙ entered_is (give (machine policy plan) u d.answer) d.taken

  forwards_same : (o : Option Request) → user_fits.forwards o ≡ forwards (machine policy plan) o
  forwards_same None = refl
  forwards_same (Some r) = refl

  fits_given_same : (pause : Bool) (u : UserState) (o : Option Answer) → user_fits.fits_given pause u o ≡ fits_given (machine policy plan) pause u o
  fits_given_same true u None = refl
  fits_given_same true u (Some a) = refl
  fits_given_same false u None = ap not (forwards_same (request_of u))
  fits_given_same false u (Some a) = ap (λ b. b && user_fits.fits_answer u a) (forwards_same (request_of u))

  fits_entered_same : (u : UserState) (o : Option Taken) → user_fits.fits_entered u o ≡ fits_entered (machine policy plan) u o
  fits_entered_same u None = refl
  fits_entered_same u (Some t) = refl

  fits_done_same : (pause : Bool) (u : UserState) (d : code_done.Done) → acting.fits_done pause u d ≡ fits_done (machine policy plan) pause u (done_of policy plan d)
  fits_done_same pause u d =
      ap (λ b. b && user_fits.fits_entered (user_fits.given_by u d.answer) d.taken) (fits_given_same pause u d.answer)
      ∙ ap (λ b. fits_given (machine policy plan) pause u d.answer && b) (ap (λ (x : UserState). user_fits.fits_entered x d.taken) (given_is u d.answer) ∙ fits_entered_same (give (machine policy plan) u d.answer) d.taken)

  -- ---- what is told, what is left, and what is posted

  got_deed_is : (p : ℕ) (move : Option KeptMove) (child : Option ℕ) (ended : Bool) → deed_of plan.script (acting.what_of p move child ended) ≡ Got p child ended (kept_told (machine policy plan) (option_map kept_of move) ended)
  got_deed_is p None child ended = refl
  got_deed_is p (Some m) child true = refl
  got_deed_is p (Some m) child false = refl

  state_is : (move : Option KeptMove) → state_of (acting.resumed_stance move) ≡ got_state (machine policy plan) (option_map kept_of move)
  state_is None = refl
  state_is (Some m) = refl

  got_is : (c : code_context.Context) (move : Option KeptMove) (d : code_done.Done) → option_map (context_of policy plan) (acting.got_context move d c) ≡ got_context (machine policy plan) (body_of policy plan c) (option_map kept_of move) (done_of policy plan d)
  got_is c move d = go d.ended
    where
      same : context_of policy plan (acting.resumed_as move d c) ≡ context (machine policy plan) (returned (machine policy plan) (body_of policy plan c) (done_of policy plan d)) (got_state (machine policy plan) (option_map kept_of move))
      same = λ i. context (machine policy plan) (record { user = replied_is c.user d i; hops = c.hops; poked = d.more }) (state_is move i)

      go : (b : Bool) → option_map (context_of policy plan) (cond b None (Some (acting.resumed_as move d c))) ≡ cond b None (Some (context (machine policy plan) (returned (machine policy plan) (body_of policy plan c) (done_of policy plan d)) (got_state (machine policy plan) (option_map kept_of move))))
      go true = refl
      go false = ap (λ x. Some x) same

  child_is : (c : code_context.Context) (child : Option ℕ) → option_map (context_of policy plan) (acting.child_context child c) ≡ child_context (machine policy plan) c.user child
  child_is c None = refl
  child_is c (Some n) = refl

  posts_are : (old : Node) (stamp p : ℕ) (c : code_context.Context) (move : Option KeptMove) (d : code_done.Done)
      → map (post_of policy plan) (map (posted_by old.id stamp) (acting.mail_of p move d.ended (pages_of (acting.resumed_as move d c)))) ≡ got_posts (machine policy plan) old.id stamp p (body_of policy plan c) (option_map kept_of move) (done_of policy plan d)
  posts_are old stamp p c None d = refl
  posts_are old stamp p c (Some m) d = go d.ended
    where
      go : (b : Bool) → map (post_of policy plan) (map (posted_by old.id stamp) (cond b ((0, message.NoMove m.line) ∷ []) ((m.to, message.Ask p (need_of_user (acting.replied c.user d))) ∷ [])))
          ≡ cond b (letter (machine policy plan) old.id 0 stamp (note_of policy plan (message.NoMove m.line)) ∷ []) (letter (machine policy plan) old.id m.to stamp (note_of policy plan (message.Ask p (need_of_user (after (machine policy plan) c.user (done_of policy plan d))))) ∷ [])
      go true = refl
      go false = ap (λ (u : UserState). letter (machine policy plan) old.id m.to stamp (note_of policy plan (message.Ask p (need_of_user u))) ∷ []) (replied_is c.user d)

  abbrev reply_post : Node → ℕ → ℕ → ℕ → code_done.Done → Post (machine policy plan)
  reply_post old from sent p d = letter (machine policy plan) from old.id sent (Reply p (done_of policy plan d))

  was_waiting : (h : List code_context.Context) (p : ℕ) (c : code_context.Context) (pause : Bool) (move : Option KeptMove) → lookup p h ≡ Some c → c.state ≡ stance.Waiting pause move
      → option_map (context_of policy plan) (lookup p h) ≡ Some (context (machine policy plan) (body_of policy plan c) (Waiting pause (option_map kept_of move)))
  was_waiting h p c pause move here waits = ap (option_map (context_of policy plan)) here ∙ ap (λ s. Some (context (machine policy plan) (body_of policy plan c) (state_of s))) waits

  got_acts : (old : Node) (stamp from sent p : ℕ) (d : code_done.Done) (acted : Acted) (h : List code_context.Context) → Suits plan old → stamp ≤ stamp_end + (length old.journal.events + 1) → acting.GotOn acted p d old.hosted h
      → Acts policy plan stamp (Some (reply_post old from sent p d)) acted old (record old { hosted = h })
  got_acts old stamp from sent p d acted h suits early g =
      let c = g.context in
      let new : Node = record old { hosted = h } in
      let mail = acting.mail_of p g.move d.ended (pages_of (acting.resumed_as g.move d c)) in
      let is : acted ≡ record { what = acting.what_of p g.move (child_in d.answer) d.ended; mail = mail } = λ i. record { what = g.what i; mail = g.mail i } in
      let deed = got_deed_is p g.move (child_in d.answer) d.ended in
      subst (λ (a : Acted). Acts policy plan stamp (Some (reply_post old from sent p d)) a old new) (sym is) (record {
        usual = subst (λ (x : Deed). IsUsual x) (sym deed) tt;
        does = subst (λ (x : Deed). Does (machine policy plan) x old.id (local policy plan old) (turn_at policy plan old.id stamp x (Some (reply_post old from sent p d)) mail) (local policy plan (at_clock stamp new))) (sym deed) (record {
          from = from;
          stamp = sent;
          body = body_of policy plan c;
          pause = g.pause;
          keeps = option_map kept_of g.move;
          done = done_of policy plan d;
          was = was_waiting old.hosted p c g.pause g.move g.here g.waits;
          child_is = refl;
          ended_is = refl;
          kept_is = refl;
          base = record { took = refl; posts = posts_are old stamp p c g.move d; slots = slots_put_both policy plan old p _ (child_in d.answer) _ h _ _ (got_is c g.move d) (child_is c (child_in d.answer)) g.puts };
          still = record { kernel = refl; believed = λ q. refl; progress = refl; gossip = refl };
        });
        same = refl;
        suits = suits_hosted policy plan old h stamp early suits;
      })

  -- ---- whether a reply fits

  state_in : Option (Context (machine policy plan)) → Option State
  state_in None = None
  state_in (Some c) = Some c.state

  by_state : Done (machine policy plan) → State → Body (machine policy plan) → Bool
  by_state d Running b = true
  by_state d (Waiting pause k) b = fits_done (machine policy plan) pause b.user d
  by_state d (Asking to line) b = true

  done_test : Done (machine policy plan) → Option (Context (machine policy plan)) → Bool
  done_test d None = true
  done_test d (Some c) = by_state d c.state c.body

  misfit_as : (c : code_context.Context) (s : Stance) (d : code_done.Done) → acting.fits_stance s c.user d ≡ false
      → NotWaiting (machine policy plan) (Some (context (machine policy plan) (body_of policy plan c) (state_of s))) ⊎ WrongDone (machine policy plan) (Some (context (machine policy plan) (body_of policy plan c) (state_of s))) (done_of policy plan d)
  unfolding state_in
  misfit_as c stance.Running d e = inl (λ b pause k same. let z : Some Running ≡ Some (Waiting pause k) = ap state_in same in cc)
  misfit_as c (stance.Waiting pause kept) d e = inr (body_of policy plan c, pause, option_map kept_of kept, refl, sym (fits_done_same pause c.user d) ∙ e)
  misfit_as c (stance.Asking to line) d e = inl (λ b pause k same. let z : Some (Asking to line) ≡ Some (Waiting pause k) = ap state_in same in cc)

  misfit_here : (o : Option code_context.Context) (d : code_done.Done) → acting.fits_here o d ≡ false
      → NotWaiting (machine policy plan) (option_map (context_of policy plan) o) ⊎ WrongDone (machine policy plan) (option_map (context_of policy plan) o) (done_of policy plan d)
  misfit_here None d e = inl (λ b pause k same. cc)
  misfit_here (Some c) d e = misfit_as c c.state d e

  none_here : (o : Option code_context.Context) → is_none o ≡ true → option_map (context_of policy plan) o ≡ None
  none_here None e = refl
  none_here (Some c) e = absurd cc

  some_here : (o : Option code_context.Context) → is_none o ≡ false → option_map (context_of policy plan) o ≢ None
  some_here None e = absurd cc
  some_here (Some c) e = λ same. cc

  not_new : (old : Node) (o : Option ℕ) → acting.is_new_child o old.hosted ≡ false → WrongChild (machine policy plan) old.id (local policy plan old) o
  not_new old None e = absurd cc
  not_new old (Some c) e = inl (some_here (lookup c old.hosted) e)

  and_fails : (a b : Bool) → (a && b) ≡ false → (a ≡ false) ⊎ (b ≡ false)
  and_fails true b e = inr e
  and_fails false b e = inl refl

  reply_unfit : (old : Node) (from p : ℕ) (d : code_done.Done) → acting.fits_reply p d old.hosted ≡ false → Unfit (machine policy plan) old.id from (local policy plan old) (note_of policy plan (message.Reply p d))
  reply_unfit old from p d e = inl (go (and_fails (acting.fits_here (lookup p old.hosted) d) (acting.is_new_child (child_in d.answer) old.hosted) e))
    where
      here : NotWaiting (machine policy plan) (slot_of policy plan old p).context ⊎ WrongDone (machine policy plan) (slot_of policy plan old p).context (done_of policy plan d)
          → NotWaiting (machine policy plan) (slot_of policy plan old p).context ⊎ (WrongDone (machine policy plan) (slot_of policy plan old p).context (done_of policy plan d) ⊎ WrongChild (machine policy plan) old.id (local policy plan old) (child_in d.answer))
      here (inl w) = inl w
      here (inr w) = inr (inl w)

      go : (acting.fits_here (lookup p old.hosted) d ≡ false) ⊎ (acting.is_new_child (child_in d.answer) old.hosted ≡ false)
          → NotWaiting (machine policy plan) (slot_of policy plan old p).context ⊎ (WrongDone (machine policy plan) (slot_of policy plan old p).context (done_of policy plan d) ⊎ WrongChild (machine policy plan) old.id (local policy plan old) (child_in d.answer))
      go (inl f) = here (misfit_here (lookup p old.hosted) d f)
      go (inr f) = inr (inr (not_new old (child_in d.answer) f))

  -- a child that home never gave
  stray : (old : Node) (o : Option ℕ) → is_stray old o ≡ true → (old.id ≡ 0) × WrongChild (machine policy plan) old.id (local policy plan old) o
  stray old None e = absurd (no_and (old.id == 0) e)
    where
      no_and : (b : Bool) → (b && false) ≡ true → ⊥
      no_and true f = cc
      no_and false f = cc
  stray old (Some c) e =
      let home : old.id ≡ 0 = numbers_same old.id 0 (first (old.id == 0) _ e) in
      (home, inr (home, not_given c (given old.deputies.kernel) (second (old.id == 0) _ e)))
    where
      first : (a b : Bool) → (a && b) ≡ true → a ≡ true
      first true b f = refl
      first false b f = absurd cc

      second : (a b : Bool) → (a && b) ≡ true → b ≡ true
      second true b f = f
      second false b f = absurd cc

  reply_stray_unfit : (old : Node) (from p : ℕ) (d : code_done.Done) → is_stray old (child_in d.answer) ≡ true → Unfit (machine policy plan) old.id from (local policy plan old) (note_of policy plan (message.Reply p d))
  reply_stray_unfit old from p d e = inl (inr (inr (stray old (child_in d.answer) e).1))

  right_child : (old : Node) (o : Option ℕ) → acting.is_new_child o old.hosted ≡ true → is_stray old o ≡ false → WrongChild (machine policy plan) old.id (local policy plan old) o → ⊥
  right_child old None new known w = absurd w
  right_child old (Some c) new known (inl here) = here (none_here (lookup c old.hosted) new)
  right_child old (Some c) new known (inr (home, never)) = known_not c (given old.deputies.kernel) (sym (ap (λ b. b && not (nat_le 1 c && nat_le c (given old.deputies.kernel))) (same_numbers old.id 0 home)) ∙ known) never

  reply_no_misfit : (old : Node) (from p : ℕ) (d : code_done.Done) (acted : Acted) (h : List code_context.Context) → from < plan.nodes → is_stray old (child_in d.answer) ≡ false → acting.GotOn acted p d old.hosted h
      → Unfit (machine policy plan) old.id from (local policy plan old) (note_of policy plan (message.Reply p d)) → ⊥
  unfolding done_test by_state
  reply_no_misfit old from p d acted h near known g (inl (inl w)) = w (body_of policy plan g.context) g.pause (option_map kept_of g.move) (was_waiting old.hosted p g.context g.pause g.move g.here g.waits)
  reply_no_misfit old from p d acted h near known g (inl (inr (inl (b, pause, k, is, wrong)))) =
      let was = was_waiting old.hosted p g.context g.pause g.move g.here g.waits in
      let fits : true ≡ fits_done (machine policy plan) g.pause g.context.user (done_of policy plan d) = sym g.fits ∙ fits_done_same g.pause g.context.user d in
      let same : fits_done (machine policy plan) g.pause g.context.user (done_of policy plan d) ≡ fits_done (machine policy plan) pause b.user (done_of policy plan d) = ap (done_test (done_of policy plan d)) (sym was ∙ is) in
      let z : true ≡ false = fits ∙ same ∙ wrong in absurd cc
  reply_no_misfit old from p d acted h near known g (inl (inr (inr w))) = right_child old (child_in d.answer) g.child known w
  reply_no_misfit old from p d acted h near known g (inr (inl far)) = omega (arith, near, far)
  reply_no_misfit old from p d acted h near known g (inr (inr far)) = absurd far

  -- a reply comes
  pub reply_hears : (old mid : Node) (stamp from sent p : ℕ) (d : code_done.Done) (acted : Acted) → Suits plan old → from < plan.nodes → stamp ≤ stamp_end + (length old.journal.events + 1)
      → HearsReply p d acted old mid → Hears policy plan stamp old.id from sent (message.Reply p d) acted old mid
  reply_hears old mid stamp from sent p d acted suits near early h = go (is_stray old (child_in d.answer)) refl h
    where
      placed : is_stray old (child_in d.answer) ≡ false → (b : Bool) → acting.fits_reply p d old.hosted ≡ b → OnHosted (acting.Gets acted p d) old mid → Hears policy plan stamp old.id from sent (message.Reply p d) acted old mid
      placed known true e o =
          let g = o.does.fits e in
          Fits (subst (λ (m : Node). Acts policy plan stamp (Some (reply_post old from sent p d)) acted old m) (sym o.rest) (got_acts old stamp from sent p d acted mid.hosted suits early g)) (reply_no_misfit old from p d acted mid.hosted near known g)
      placed known false e o =
          let s = o.does.strange e in
          Misfits s.what (reply_unfit old from p d e) (o.rest ∙ ap (λ (h : List code_context.Context). record old { hosted = h }) s.same)

      go : (b : Bool) → is_stray old (child_in d.answer) ≡ b → MatchBool b (IsStrange acted old mid) (OnHosted (acting.Gets acted p d) old mid) → Hears policy plan stamp old.id from sent (message.Reply p d) acted old mid
      go true e s = Misfits s.what (reply_stray_unfit old from p d e) s.same
      go false e o = placed e (acting.fits_reply p d old.hosted) refl o
