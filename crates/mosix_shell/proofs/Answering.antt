-- What the parts of the top call come to is what each mode promises.
use Rattle.std.proofs.Common.{◌≡◌, ◌⊎◌, inl, inr, ℕ, ◌+◌, List, refl, ap, ◌∙◌, sym, subst, Option, Some, None, Result, Ok, Err, true, false, cond, is_some}
use Rattle.call_table.specs.declared.limit.TheConstants.{SCRIPT_BYTES}
use Rattle.outside.specs.Outside.{NamedFile}
use Rattle.outside.specs.declared.traits.Failed.{Failed}
use Rattle.node_event.specs.declared.script.ScriptLine.{ScriptLine}
use Rattle.rand_core.specs.Stream.{Stream}
use Rattle.mosix_words.specs.declared.settings.Mode.{Mode}
use Rattle.mosix_words.specs.declared.settings.Mode.TheVariants as mode
use Rattle.mosix_words.specs.declared.settings.Settings.{Settings}
use Rattle.user_spec.specs.User.{UserState}
use Rattle.node_machine.specs.Machine.{Policy}
use Rattle.shell_text.specs.Printing.{IsCall}
use Rattle.shell_text.specs.Script.{script_of}
use Rattle.shell_text.specs.declared.fault.ScriptError.TheVariants as fault
use Rattle.shell_text.specs.declared.run.Last.{Last}
use Rattle.shell_text.specs.declared.run.Last.TheVariants as last
use Rattle.shell_text.specs.declared.run.Run.{Run}
use Rattle.work_gen.specs.Work.{IsWork}
use Rattle.work_gen.specs.declared.made.Work.{Work}
use Rattle.mosix_shell.specs.Told.{Seen, WhereTold, IsTextOf, seen, kept, told, tells_now, HasRisen, IsUntouched}
use Rattle.mosix_shell.specs.Reading.{Reads}
use Rattle.mosix_shell.specs.Why.{line_of, has_run, why_of_last, cuts_short}
use Rattle.mosix_shell.specs.Writing.{writes_of, WritesAll, WritesFront, WritesSome, WritesLine}
use Rattle.mosix_shell.specs.Orders.{IsScriptOf, IsFaultOf, IsUnread}
use Rattle.mosix_shell.specs.Images.{Refusal, RunLine, runs_of, images_of, AreImagesOf, IsRefused}
use Rattle.mosix_shell.specs.Causes.{CauseOf, Verdict, IsFaulty, HasBadImage, Runs, verdict_on_users, verdict_on_script, verdict_of, Follows, IsComplete}
use Rattle.mosix_shell.specs.Generating.{seed_of, IsUnmade}
use Rattle.mosix_shell.specs.Answers.{IsRunOf, IsReported, IsPartlyTold, WritesAnswer, TellsNone, Tells, ScriptAnswers, RunAnswers, TellsWork, GenAnswers, Refuses, AnswersIn, Answers}
use Rattle.mosix_shell.specs.Parts.{IsRunFrom, IsUnrun, IsTold, IsPartOf, RefusesOrders, TellsOrders}
use Rattle.mosix_shell.specs.declared.mosix.Ended.{Ended}
use Rattle.mosix_shell.specs.declared.printing.Form.{Form}
use Rattle.mosix_shell.specs.declared.printing.Form.TheVariants.{Report, Summary}
use Rattle.mosix_shell.specs.declared.why.Why.{Why}
use Rattle.mosix_shell.specs.declared.why.Why.TheVariants.{Done, Stuck, BadWords, BadScript, BadImage, ReadFault, WriteFault, NoMemory, JournalFull, BadSource}
use Rattle.mosix_shell.proofs.Readings.{cut_or_not, still_read, none_read}
use Rattle.mosix_shell.proofs.Assemblies.{no_memory}

-- ---- the line of an answer

module _ {O : Type 0} (sink : Seen O (List ℕ)) where
  pub line_written : (ended : Ended) (status : ℕ) (why : Why) (line given : List ℕ) (r : Result (Unit {0}) Failed) → ended ≡ record { status = status; why = why; run = None } → line_of why ≡ Some line → given ≡ line
      → IsCall sink.tells sink.faults sink.old given r sink.new → WritesLine sink (line_of ended.why)
  line_written ended status why line given r is e same call =
      subst (λ (x : Ended). WritesLine sink (line_of x.why)) (sym is)
      (subst (WritesLine sink) (sym e) (r, subst (λ x. IsCall sink.tells sink.faults sink.old x r sink.new) same call))

  pub line_unwritten : (ended : Ended) (status : ℕ) (why : Why) → ended ≡ record { status = status; why = why; run = None } → line_of why ≡ None → IsUntouched sink → WritesLine sink (line_of ended.why)
  line_unwritten ended status why is e same = subst (λ (x : Ended). WritesLine sink (line_of x.why)) (sym is) (subst (WritesLine sink) (sym e) same)

-- ---- the report of a run

module _ {O : Type 0} (sink : Seen O (List ℕ)) (report : List (List ℕ)) (run : Run) where
  reported_last : (l : Last) → run.last ≡ l → WritesAll sink report → IsReported sink report run (why_of_last l)
  reported_last last.Done e w = (ap why_of_last (sym e), w)
  reported_last last.Stuck e w = (ap why_of_last (sym e), w)
  reported_last (last.Full node) e w = (ap why_of_last (sym e), w)

  pub told_whole : (ended : Ended) (status : ℕ) (why : Why) → ended ≡ record { status = status; why = why; run = Some run } → why ≡ why_of_last run.last → WritesAll sink report → IsTold sink report run ended.run ended.why
  told_whole ended status why is e w =
      subst (λ (x : Ended). IsTold sink report run x.run x.why) (sym is) (refl, subst (IsReported sink report run) (sym e) (reported_last run.last refl w))

  pub told_front : (ended : Ended) (status : ℕ) → ended ≡ record { status = status; why = WriteFault; run = Some run } → WritesFront sink report → IsTold sink report run ended.run ended.why
  told_front ended status is w = subst (λ (x : Ended). IsTold sink report run x.run x.why) (sym is) (refl, w)

  pub told_some : (ended : Ended) (status : ℕ) → ended ≡ record { status = status; why = NoMemory; run = None } → WritesSome sink report → IsTold sink report run ended.run ended.why
  told_some ended status is w = subst (λ (x : Ended). IsTold sink report run x.run x.why) (sym is) (refl, w)

-- ---- the orders of a script

module _ (policy : Policy) (chance : Stream) (form : Form) {I O : Type 0} (settings : Settings) (orders : List ScriptLine) (images : Seen I (List NamedFile)) (sink : Seen O (List ℕ)) where
  tells_run : (run : Run) (o : Option Run) (why : Why) → IsRunFrom policy chance settings (told images) orders run → IsTold sink (writes_of form orders run) run o why → TellsOrders policy chance form settings orders images sink o why
  tells_run run (Some shown) why r t = subst (λ (x : Run). IsRunFrom policy chance settings (told images) orders x × IsReported sink (writes_of form orders x) x why) (sym t.0) (r, t.1)
  tells_run run None why r t = subst (RefusesOrders policy chance form settings orders images sink) (sym t.0) (inr (record { run = run; run_from = r; printed = t.1 }))

  pub orders_told : (run : Run) (ended : Ended) → IsRunFrom policy chance settings (told images) orders run → IsTold sink (writes_of form orders run) run ended.run ended.why → TellsOrders policy chance form settings orders images sink ended.run ended.why
  orders_told run ended r t = tells_run run ended.run ended.why r t

  refused_so : (why : Why) → IsUnrun (told images) orders why → (why ≡ ReadFault → HasRisen images) → WritesLine sink (line_of why) → RefusesOrders policy chance form settings orders images sink why
  refused_so (BadImage line kind) u f w = (u, w)
  refused_so ReadFault u f w = (f refl, w)
  refused_so NoMemory u f w = inl w
  refused_so BadWords u f w = absurd u
  refused_so (BadScript line kind) u f w = absurd u
  refused_so (BadSource line kind) u f w = absurd u
  refused_so Done u f w = absurd u
  refused_so Stuck u f w = absurd u
  refused_so WriteFault u f w = absurd u
  refused_so (JournalFull node) u f w = absurd u

  refused_as : (why told' : Why) → ((told' ≡ why) ⊎ (told' ≡ NoMemory)) → IsUnrun (told images) orders why → (why ≡ ReadFault → HasRisen images) → WritesLine sink (line_of told') → RefusesOrders policy chance form settings orders images sink told'
  refused_as why told' (inl e) u f w = refused_so told' (subst (IsUnrun (told images) orders) (sym e) u) (λ h. f (sym e ∙ h)) w
  refused_as why told' (inr e) u f w = subst (RefusesOrders policy chance form settings orders images sink) (sym e) (inl (subst (λ y. WritesLine sink (line_of y)) e w))

  pub orders_refused : (why : Why) (ended : Ended) → ended.run ≡ None → ((ended.why ≡ why) ⊎ (ended.why ≡ NoMemory)) → IsUnrun (told images) orders why → (why ≡ ReadFault → HasRisen images) → WritesLine sink (line_of ended.why)
      → TellsOrders policy chance form settings orders images sink ended.run ended.why
  orders_refused why ended none is u f w = subst (λ o. TellsOrders policy chance form settings orders images sink o ended.why) (sym none) (refused_as why ended.why is u f w)

-- ---- mode `run`: completeness

completes : (settings : Settings) (script : Option (List ℕ)) (files : Option (List NamedFile)) (why : Why) (v : Verdict) → Follows why v → ((s : List ℕ) (fs : List NamedFile) → script ≡ Some s → files ≡ Some fs → verdict_of settings.nodes s fs ≡ v) → IsComplete settings script files why
completes settings None files why v f h = tt
completes settings (Some s) None why v f h = tt
completes settings (Some s) (Some fs) why v f h = subst (Follows why) (sym (h s fs refl refl)) f

read_as : (nodes : ℕ) (script : Option (List ℕ)) (orders : List ScriptLine) (s : List ℕ) → IsScriptOf nodes script orders → script ≡ Some s → script_of nodes s ≡ Ok orders
read_as nodes script orders s r e = let same : r.text ≡ s = subst (λ o. IsTextOf o r.text) e r.text_is in ap (script_of nodes) (sym same) ∙ r.reads

faulty_as : (nodes : ℕ) (script : Option (List ℕ)) (line kind : ℕ) (s : List ℕ) → IsFaultOf nodes script line kind → script ≡ Some s → script_of nodes s ≡ Err (fault.Fault line kind)
faulty_as nodes script line kind s r e = let same : r.text ≡ s = subst (λ o. IsTextOf o r.text) e r.text_is in ap (script_of nodes) (sym same) ∙ r.reads

images_as : (files : Option (List NamedFile)) (runs : List RunLine) (r : Result (List UserState) Refusal) (fs : List NamedFile) → WhereTold files (λ x. images_of x runs ≡ r) → files ≡ Some fs → images_of fs runs ≡ r
images_as files runs r fs h e = subst (λ o. WhereTold o (λ x. images_of x runs ≡ r)) e h

complete_free : (settings : Settings) (script : Option (List ℕ)) (files : Option (List NamedFile)) (why : Why) → ((v : Verdict) → Follows why v) → IsComplete settings script files why
complete_free settings None files why h = tt
complete_free settings (Some s) None why h = tt
complete_free settings (Some s) (Some fs) why h = h (verdict_of settings.nodes s fs)

module _ (settings : Settings) (script : Option (List ℕ)) (files : Option (List NamedFile)) where
  verdict_at : (orders : List ScriptLine) (r : Result (List UserState) Refusal) (s : List ℕ) (fs : List NamedFile) → IsScriptOf settings.nodes script orders → WhereTold files (λ x. images_of x (runs_of orders) ≡ r) → script ≡ Some s → files ≡ Some fs
      → verdict_of settings.nodes s fs ≡ verdict_on_users r
  verdict_at orders r s fs o i e f = ap (verdict_on_script fs) (read_as settings.nodes script orders s o e) ∙ ap verdict_on_users (images_as files (runs_of orders) r fs i f)

  complete_run : (orders : List ScriptLine) (users : List UserState) (why : Why) → Follows why Runs → IsScriptOf settings.nodes script orders → AreImagesOf files (runs_of orders) users → IsComplete settings script files why
  complete_run orders users why f o i = completes settings script files why Runs f (λ s fs e g. verdict_at orders (Ok users) s fs o i.named e g)

  complete_image : (orders : List ScriptLine) (line kind : ℕ) → IsScriptOf settings.nodes script orders → IsRefused files (runs_of orders) line kind → IsComplete settings script files (BadImage line kind)
  complete_image orders line kind o r = completes settings script files (BadImage line kind) (HasBadImage line kind) refl (λ s fs e g. verdict_at orders (Err (record { line = line; kind = kind })) s fs o r.named e g)

  complete_fault : (line kind : ℕ) → IsFaultOf settings.nodes script line kind → IsComplete settings script files (BadScript line kind)
  complete_fault line kind r = completes settings script files (BadScript line kind) (IsFaulty line kind) refl (λ s fs e g. ap (verdict_on_script fs) (faulty_as settings.nodes script line kind s r e))

-- ---- mode `run`

follows_last : (l : Last) → Follows (why_of_last l) Runs
follows_last last.Done = refl
follows_last last.Stuck = refl
follows_last (last.Full node) = refl

last_has_run : (l : Last) → true ≡ has_run (why_of_last l)
last_has_run last.Done = refl
last_has_run last.Stuck = refl
last_has_run (last.Full node) = refl

module _ {O : Type 0} (sink : Seen O (List ℕ)) (report : List (List ℕ)) (run : Run) where
  reported_follows : (why : Why) → IsReported sink report run why → Follows why Runs
  reported_follows Done h = subst (λ y. Follows y Runs) (sym h.0) (follows_last run.last)
  reported_follows Stuck h = subst (λ y. Follows y Runs) (sym h.0) (follows_last run.last)
  reported_follows BadWords h = subst (λ y. Follows y Runs) (sym h.0) (follows_last run.last)
  reported_follows (BadScript line kind) h = subst (λ y. Follows y Runs) (sym h.0) (follows_last run.last)
  reported_follows (BadImage line kind) h = subst (λ y. Follows y Runs) (sym h.0) (follows_last run.last)
  reported_follows ReadFault h = subst (λ y. Follows y Runs) (sym h.0) (follows_last run.last)
  reported_follows WriteFault h = refl
  reported_follows NoMemory h = subst (λ y. Follows y Runs) (sym h.0) (follows_last run.last)
  reported_follows (JournalFull node) h = subst (λ y. Follows y Runs) (sym h.0) (follows_last run.last)
  reported_follows (BadSource line kind) h = subst (λ y. Follows y Runs) (sym h.0) (follows_last run.last)

  reported_has_run : (why : Why) → IsReported sink report run why → true ≡ has_run why
  reported_has_run Done h = last_has_run run.last ∙ ap has_run (sym h.0)
  reported_has_run Stuck h = last_has_run run.last ∙ ap has_run (sym h.0)
  reported_has_run BadWords h = last_has_run run.last ∙ ap has_run (sym h.0)
  reported_has_run (BadScript line kind) h = last_has_run run.last ∙ ap has_run (sym h.0)
  reported_has_run (BadImage line kind) h = last_has_run run.last ∙ ap has_run (sym h.0)
  reported_has_run ReadFault h = last_has_run run.last ∙ ap has_run (sym h.0)
  reported_has_run WriteFault h = refl
  reported_has_run NoMemory h = last_has_run run.last ∙ ap has_run (sym h.0)
  reported_has_run (JournalFull node) h = last_has_run run.last ∙ ap has_run (sym h.0)
  reported_has_run (BadSource line kind) h = last_has_run run.last ∙ ap has_run (sym h.0)

module _ (policy : Policy) (chance : Stream) (form : Form) {S I O : Type 0} (settings : Settings) (script : Seen S (List ℕ)) (images : Seen I (List NamedFile)) (sink : Seen O (List ℕ)) where
  writes_answer : (why : Why) → WritesLine sink (line_of why) → WritesAnswer policy chance form settings script images sink why
  writes_answer Done h = h
  writes_answer Stuck h = h
  writes_answer BadWords h = h
  writes_answer (BadScript line kind) h = h
  writes_answer (BadImage line kind) h = h
  writes_answer ReadFault h = h
  writes_answer WriteFault h = h
  writes_answer NoMemory h = inl h
  writes_answer (JournalFull node) h = h
  writes_answer (BadSource line kind) h = h

  cause_has_run : (why : Why) → CauseOf settings script images why → false ≡ has_run why
  cause_has_run Done c = absurd c
  cause_has_run Stuck c = absurd c
  cause_has_run BadWords c = refl
  cause_has_run (BadScript line kind) c = refl
  cause_has_run (BadImage line kind) c = refl
  cause_has_run ReadFault c = refl
  cause_has_run WriteFault c = absurd c
  cause_has_run NoMemory c = refl
  cause_has_run (JournalFull node) c = absurd c
  cause_has_run (BadSource line kind) c = refl

  tells_has_run : (o : Option Run) (why : Why) → Tells policy chance form settings script images sink o why → is_some o ≡ has_run why
  tells_has_run (Some run) why t = reported_has_run sink (writes_of form t.orders run) run why t.printed
  tells_has_run None why t = cause_has_run why t.causes

  -- ---- the script is refused

  unread_cause : (why : Why) → IsUntouched images → IsUnread settings.nodes (told script) why → (why ≡ ReadFault → HasRisen script) → CauseOf settings script images why
  unread_cause Done same u f = absurd u
  unread_cause Stuck same u f = absurd u
  unread_cause BadWords same u f = absurd u
  unread_cause (BadScript line kind) same u f = (u, same)
  unread_cause (BadImage line kind) same u f = absurd u
  unread_cause ReadFault same u f = inl (f refl, same)
  unread_cause WriteFault same u f = absurd u
  unread_cause NoMemory same u f = tt
  unread_cause (JournalFull node) same u f = absurd u
  unread_cause (BadSource line kind) same u f = absurd u

  unread_complete : (why : Why) → IsUnread settings.nodes (told script) why → IsComplete settings (told script) (told images) why
  unread_complete Done u = absurd u
  unread_complete Stuck u = absurd u
  unread_complete BadWords u = absurd u
  unread_complete (BadScript line kind) u = complete_fault settings (told script) (told images) line kind u
  unread_complete (BadImage line kind) u = absurd u
  unread_complete ReadFault u = complete_free settings (told script) (told images) ReadFault (λ v. tt)
  unread_complete WriteFault u = absurd u
  unread_complete NoMemory u = complete_free settings (told script) (told images) NoMemory (λ v. tt)
  unread_complete (JournalFull node) u = absurd u
  unread_complete (BadSource line kind) u = absurd u

  memory_tells : WritesLine sink (line_of NoMemory) → TellsNone policy chance form settings script images sink NoMemory
  memory_tells w = record { causes = tt; printed = inl w }

  unread_tells : (why shown : Why) → IsUntouched images → ((shown ≡ why) ⊎ (shown ≡ NoMemory)) → IsUnread settings.nodes (told script) why → (why ≡ ReadFault → HasRisen script) → WritesLine sink (line_of shown) → TellsNone policy chance form settings script images sink shown
  unread_tells why shown same (inl e) u f w = record {
    causes = unread_cause shown same (subst (IsUnread settings.nodes (told script)) (sym e) u) (λ h. f (sym e ∙ h));
    printed = writes_answer shown w;
  }
  unread_tells why shown same (inr e) u f w = subst (TellsNone policy chance form settings script images sink) (sym e) (memory_tells (subst (λ y. WritesLine sink (line_of y)) e w))

  unread_follows : (why shown : Why) → ((shown ≡ why) ⊎ (shown ≡ NoMemory)) → IsUnread settings.nodes (told script) why → IsComplete settings (told script) (told images) shown
  unread_follows why shown (inl e) u = unread_complete shown (subst (IsUnread settings.nodes (told script)) (sym e) u)
  unread_follows why shown (inr e) u = subst (IsComplete settings (told script) (told images)) (sym e) (complete_free settings (told script) (told images) NoMemory (λ v. tt))

  pub answers_refused : (why : Why) (ended : Ended) → IsUntouched images → ended.run ≡ None → ((ended.why ≡ why) ⊎ (ended.why ≡ NoMemory)) → IsUnread settings.nodes (told script) why → (why ≡ ReadFault → HasRisen script)
      → WritesLine sink (line_of ended.why) → ScriptAnswers policy chance form settings script images sink ended
  answers_refused why ended same none is u f w = record {
    tells = subst (λ o. Tells policy chance form settings script images sink o ended.why) (sym none) (unread_tells why ended.why same is u f w);
    has_run = ap is_some none ∙ cause_has_run ended.why (unread_tells why ended.why same is u f w).causes;
    completeness = unread_follows why ended.why is u;
  }

  -- ---- the script is run

  run_accepted : (orders : List ScriptLine) (run : Run) → IsScriptOf settings.nodes (told script) orders → IsRunFrom policy chance settings (told images) orders run → IsRunOf policy chance settings (told script) (told images) orders run
  run_accepted orders run o r = record { users = r.users; accepted = record { orders_are = o; users_are = r.users_are }; is = r.is }

  part_told : (orders : List ScriptLine) → IsScriptOf settings.nodes (told script) orders → (IsUntouched sink ⊎ IsPartOf policy chance form settings orders images sink) → IsUntouched sink ⊎ IsPartlyTold policy chance form settings script images sink
  part_told orders o (inl h) = inl h
  part_told orders o (inr p) = inr (record { run = p.run; orders = orders; run_of = run_accepted orders p.run o p.run_from; printed = p.printed })

  none_tells : (orders : List ScriptLine) (why : Why) → IsScriptOf settings.nodes (told script) orders → RefusesOrders policy chance form settings orders images sink why → TellsNone policy chance form settings script images sink why
  none_tells orders Done o r = absurd r
  none_tells orders Stuck o r = absurd r
  none_tells orders BadWords o r = absurd r
  none_tells orders (BadScript line kind) o r = absurd r
  none_tells orders (BadImage line kind) o r = record { causes = record { orders = orders; orders_are = o; refused = r.0 }; printed = r.1 }
  none_tells orders ReadFault o r = record { causes = inr (record { orders = orders; orders_are = o; failed = r.0 }); printed = r.1 }
  none_tells orders WriteFault o r = absurd r
  none_tells orders NoMemory o r = record { causes = tt; printed = part_told orders o r }
  none_tells orders (JournalFull node) o r = absurd r
  none_tells orders (BadSource line kind) o r = absurd r

  none_complete : (orders : List ScriptLine) (why : Why) → IsScriptOf settings.nodes (told script) orders → RefusesOrders policy chance form settings orders images sink why → IsComplete settings (told script) (told images) why
  none_complete orders Done o r = absurd r
  none_complete orders Stuck o r = absurd r
  none_complete orders BadWords o r = absurd r
  none_complete orders (BadScript line kind) o r = absurd r
  none_complete orders (BadImage line kind) o r = complete_image settings (told script) (told images) orders line kind o r.0
  none_complete orders ReadFault o r = complete_free settings (told script) (told images) ReadFault (λ v. tt)
  none_complete orders WriteFault o r = absurd r
  none_complete orders NoMemory o r = complete_free settings (told script) (told images) NoMemory (λ v. tt)
  none_complete orders (JournalFull node) o r = absurd r
  none_complete orders (BadSource line kind) o r = absurd r

  orders_tell : (orders : List ScriptLine) (o : Option Run) (why : Why) → IsScriptOf settings.nodes (told script) orders → TellsOrders policy chance form settings orders images sink o why → Tells policy chance form settings script images sink o why
  orders_tell orders (Some run) why s t = record { orders = orders; run_of = run_accepted orders run s t.0; printed = t.1 }
  orders_tell orders None why s t = none_tells orders why s t

  orders_complete : (orders : List ScriptLine) (o : Option Run) (why : Why) → IsScriptOf settings.nodes (told script) orders → TellsOrders policy chance form settings orders images sink o why → IsComplete settings (told script) (told images) why
  orders_complete orders (Some run) why s t =
      complete_run settings (told script) (told images) orders t.0.users why (reported_follows sink (writes_of form orders run) run why t.1) s t.0.users_are
  orders_complete orders None why s t = none_complete orders why s t

  pub answers_told : (orders : List ScriptLine) (ended : Ended) → IsScriptOf settings.nodes (told script) orders → TellsOrders policy chance form settings orders images sink ended.run ended.why
      → ScriptAnswers policy chance form settings script images sink ended
  answers_told orders ended s t = record {
    tells = orders_tell orders ended.run ended.why s t;
    has_run = tells_has_run ended.run ended.why (orders_tell orders ended.run ended.why s t);
    completeness = orders_complete orders ended.run ended.why s t;
  }

  memory_answered : (ended : Ended) (status : ℕ) → IsUntouched sink → ended ≡ record { status = status; why = NoMemory; run = None } → ScriptAnswers policy chance form settings script images sink ended
  memory_answered ended status silent is = subst (ScriptAnswers policy chance form settings script images sink) (sym is) (record {
    tells = memory_tells silent;
    has_run = refl;
    completeness = complete_free settings (told script) (told images) NoMemory (λ v. tt);
  })

-- ---- mode `gen`

module _ (policy : Policy) (chance : Stream) {O : Type 0} (settings : Settings) (sink : Seen O (List ℕ)) where
  module _ (text : List ℕ) (files : List NamedFile) where
    -- the images stayed as they were, and never fail
    pub work_told : (held now : List NamedFile) (given : List ℕ) (orders : List ScriptLine) (ended : Ended) → given ≡ text → held ≡ files → IsScriptOf settings.nodes (Some given) orders → ◌≡◌ {A = Option (List NamedFile)} (Some now) (Some held)
        → TellsOrders policy chance Summary settings orders (seen {T = List NamedFile} (λ x. Some x) (λ x. 0) held now) sink ended.run ended.why → ScriptAnswers policy chance Summary settings (kept text) (kept files) sink ended
    work_told held now given orders ended same at s stays t =
        answers_told policy chance Summary settings (kept text) (kept files) sink orders ended (subst (λ x. IsScriptOf settings.nodes (Some x) orders) same s)
        (subst (λ x. TellsOrders policy chance Summary settings orders (kept x) sink ended.run ended.why) at
        (subst (λ x. TellsOrders policy chance Summary settings orders (seen {T = List NamedFile} (λ y. Some y) (λ y. 0) held x) sink ended.run ended.why) (let e : now ≡ held = cc in e) t))

    pub work_unread : (given : List ℕ) (why : Why) (ended : Ended) → given ≡ text → ended.run ≡ None → ((ended.why ≡ why) ⊎ (ended.why ≡ NoMemory)) → IsUnread settings.nodes (Some given) why → (why ≡ ReadFault → ⊥)
        → WritesLine sink (line_of ended.why) → ScriptAnswers policy chance Summary settings (kept text) (kept files) sink ended
    work_unread given why ended same none is u f w =
        answers_refused policy chance Summary settings (kept text) (kept files) sink why ended refl none is (subst (λ x. IsUnread settings.nodes (Some x) why) same u) (λ h. absurd (f h)) w

  unmade_as : (seed : ℕ) (why told' : Why) → ((told' ≡ why) ⊎ (told' ≡ NoMemory)) → IsUnmade seed why → IsUnmade seed told'
  unmade_as seed why told' (inl e) u = subst (IsUnmade seed) (sym e) u
  unmade_as seed why told' (inr e) u = subst (IsUnmade seed) (sym e) tt

  pub work_unmade : (why : Why) (ended : Ended) → ended.run ≡ None → ((ended.why ≡ why) ⊎ (ended.why ≡ NoMemory)) → IsUnmade (seed_of settings.seed) why → WritesLine sink (line_of ended.why) → TellsWork policy chance settings sink ended
  work_unmade why ended none is u w = inr (record { no_run = none; cause = unmade_as (seed_of settings.seed) why ended.why is u; printed = w })

  pub work_made : (work : Work) (ended : Ended) → IsWork (seed_of settings.seed) settings.nodes work → ScriptAnswers policy chance Summary settings (kept work.script) (kept work.images) sink ended → TellsWork policy chance settings sink ended
  work_made work ended is a = inl (record { work = work; is_work = is; answers = a })

-- ---- all modes

module _ (policy : Policy) (chance : Stream) {S I O : Type 0} (settings : Settings) (script : Seen S (List ℕ)) (images : Seen I (List NamedFile)) (sink : Seen O (List ℕ)) where
  pub script_refused : (why : Why) (ended : Ended) → IsUntouched images → ended.run ≡ None → ((ended.why ≡ why) ⊎ (ended.why ≡ NoMemory)) → IsUnread settings.nodes (told script) why → (why ≡ ReadFault → HasRisen script)
      → Reads (SCRIPT_BYTES + 1) (told script) (tells_now script) (cuts_short why) → WritesLine sink (line_of ended.why) → RunAnswers policy chance settings script images sink ended
  script_refused why ended same none is u f reads w = record {
    answers = answers_refused policy chance (Report settings.events) settings script images sink why ended same none is u f w;
    reads = still_read (SCRIPT_BYTES + 1) (told script) (tells_now script) why ended.why reads is;
  }

  pub script_told : (orders : List ScriptLine) (ended : Ended) → IsScriptOf settings.nodes (told script) orders → Reads (SCRIPT_BYTES + 1) (told script) (tells_now script) false → TellsOrders policy chance (Report settings.events) settings orders images sink ended.run ended.why
      → RunAnswers policy chance settings script images sink ended
  script_told orders ended s reads t = record {
    answers = answers_told policy chance (Report settings.events) settings script images sink orders ended s t;
    reads = cut_or_not (SCRIPT_BYTES + 1) (told script) (tells_now script) (cuts_short ended.why) reads;
  }

  pub in_mode : (m n : Mode) (ended : Ended) → m ≡ n → AnswersIn policy chance n settings script images sink ended → AnswersIn policy chance m settings script images sink ended
  in_mode m n ended e h = subst (λ x. AnswersIn policy chance x settings script images sink ended) (sym e) h

  memory_runs : (ended : Ended) (status : ℕ) → IsUntouched script → IsUntouched sink → ended ≡ record { status = status; why = NoMemory; run = None } → RunAnswers policy chance settings script images sink ended
  memory_runs ended status same silent is = subst (RunAnswers policy chance settings script images sink) (sym is) (record {
    answers = memory_answered policy chance (Report settings.events) settings script images sink (record { status = status; why = NoMemory; run = None }) status silent refl;
    reads = subst (λ x. Reads (SCRIPT_BYTES + 1) (told script) (script.tells x) true) (sym same) (none_read (SCRIPT_BYTES + 1) (told script));
  })

  memory_works : (ended : Ended) (status : ℕ) → IsUntouched script → IsUntouched images → IsUntouched sink → ended ≡ record { status = status; why = NoMemory; run = None } → GenAnswers policy chance settings script images sink ended
  memory_works ended status same unread silent is = subst (GenAnswers policy chance settings script images sink) (sym is) (record { work = inr (record { no_run = refl; cause = tt; printed = silent }); unread = (same, unread) })

  memory_in : (m : Mode) (ended : Ended) (status : ℕ) → IsUntouched script → IsUntouched images → IsUntouched sink → ended ≡ record { status = status; why = NoMemory; run = None } → AnswersIn policy chance m settings script images sink ended
  memory_in mode.Run ended status same unread silent is = memory_runs ended status same silent is
  memory_in mode.Asm ended status same unread silent is = no_memory script images sink ended status same unread silent is
  memory_in mode.Gen ended status same unread silent is = memory_works ended status same unread silent is

module _ (policy : Policy) (chance : Stream) {S I O : Type 0} (script : Seen S (List ℕ)) (images : Seen I (List NamedFile)) (sink : Seen O (List ℕ)) where
  pub memory_answers : (words : Option Settings) (ended : Ended) (status : ℕ) → IsUntouched script → IsUntouched images → IsUntouched sink → ended ≡ record { status = status; why = NoMemory; run = None } → Answers policy chance words script images sink ended
  memory_answers None ended status same unread silent is = subst (Refuses BadWords script images sink) (sym is) (record { why = inr refl; no_run = refl; unread = (same, unread); printed = silent })
  memory_answers (Some settings) ended status same unread silent is = memory_in policy chance settings script images sink settings.mode ended status same unread silent is

  pub words_refused : (words : Option Settings) (ended : Ended) → words ≡ None → IsUntouched script → IsUntouched images → ended.run ≡ None → ((ended.why ≡ BadWords) ⊎ (ended.why ≡ NoMemory)) → WritesLine sink (line_of ended.why) → Answers policy chance words script images sink ended
  words_refused words ended e same unread none why w = subst (λ o. Answers policy chance o script images sink ended) (sym e) (record { why = why; no_run = none; unread = (same, unread); printed = w })

  pub words_told : (words : Option Settings) (settings : Settings) (ended : Ended) → words ≡ Some settings → AnswersIn policy chance settings.mode settings script images sink ended → Answers policy chance words script images sink ended
  words_told words settings ended e h = subst (λ o. Answers policy chance o script images sink ended) (sym e) h
