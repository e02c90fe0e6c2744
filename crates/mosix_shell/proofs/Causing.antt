-- A fault of reading or writing raised a count.
use Rattle.std.proofs.Common.{◌≡◌, ◌⊎◌, inl, inr, ℕ, ◌+◌, ◌-◌, ◌^◌, ◌≤◌, min, List, [], ◌∷◌, ap, ◌∙◌, sym, subst, arith, Option, Some, None}
use Rattle.std.proofs.Math.Nat.{min-le_left, min-le_right, le-min}
use Rattle.outside.specs.Outside.{NamedFile, Rose}
use Rattle.rand_core.specs.Stream.{Stream}
use Rattle.mosix_words.specs.declared.settings.Mode.{Mode}
use Rattle.mosix_words.specs.declared.settings.Mode.TheVariants as mode
use Rattle.mosix_words.specs.declared.settings.Settings.{Settings}
use Rattle.node_machine.specs.Machine.{Policy}
use Rattle.shell_text.specs.Printing.{AreWritten}
use Rattle.shell_text.specs.Report.{chunks_of}
use Rattle.shell_text.specs.declared.run.Last.{Last}
use Rattle.shell_text.specs.declared.run.Last.TheVariants as last
use Rattle.shell_text.specs.declared.run.Run.{Run}
use Rattle.mosix_shell.specs.Told.{Seen, kept, HasRisen}
use Rattle.mosix_shell.specs.Why.{why_of_last}
use Rattle.mosix_shell.specs.Writing.{writes_of, WritesFront}
use Rattle.mosix_shell.specs.Assembling.{WritesFile}
use Rattle.mosix_shell.specs.Generating.{seed_of, IsUnmade}
use Rattle.mosix_shell.specs.Answers.{Tells, TellsWork, Refuses, AnswersIn, Answers}
use Rattle.mosix_shell.specs.declared.mosix.Ended.{Ended}
use Rattle.mosix_shell.specs.declared.printing.Form.{Form}
use Rattle.mosix_shell.specs.declared.printing.Form.TheVariants.{Report, Summary}
use Rattle.mosix_shell.specs.declared.why.Why.{Why}
use Rattle.mosix_shell.specs.declared.why.Why.TheVariants.{Done, Stuck, BadWords, ReadFault, WriteFault, NoMemory, JournalFull}

-- ---- counts never fall while pieces are written

module _ {O : Type 0} (written : O → Option (List ℕ)) (faults : O → ℕ) where
  later : (pieces : List (List ℕ)) (old new : O) → AreWritten written faults pieces old new → faults old ≤ faults new
  later [] old new h = let e : faults new ≡ faults old = ap faults h in omega arith
  later (piece ∷ rest) old new h =
      let one : faults old ≤ faults h.0 = h.1.1.later in
      let more : faults h.0 ≤ faults new = later rest h.0 new h.2 in omega arith

rose_before : (a b c : ℕ) → a ≤ b → Rose b c → Rose a c
rose_before a b c h r =
    let low : min (a + 1) (2 ^ 64 - 1) ≤ b + 1 = omega (arith, min-le_left (a + 1) (2 ^ 64 - 1)) in
    let small : min (a + 1) (2 ^ 64 - 1) ≤ min (b + 1) (2 ^ 64 - 1) = le-min low (min-le_right (a + 1) (2 ^ 64 - 1)) in
    omega (arith, small, r)

front_rose : {O : Type 0} (sink : Seen O (List ℕ)) (pieces : List (List ℕ)) → WritesFront sink pieces → HasRisen sink
front_rose sink pieces h = rose_before (sink.faults sink.old) (sink.faults h.mid) (sink.faults sink.new) (later sink.tells sink.faults h.front sink.old h.mid h.before) h.failed.1.failed

last_not : {A : Type 0} (l : Last) → WriteFault ≡ why_of_last l → A
last_not last.Done h = cc
last_not last.Stuck h = cc
last_not (last.Full node) h = cc

module _ (policy : Policy) (chance : Stream) {S I O : Type 0} (script : Seen S (List ℕ)) (images : Seen I (List NamedFile)) (sink : Seen O (List ℕ)) where
  reads_last : (l : Last) → why_of_last l ≡ ReadFault → HasRisen script ⊎ HasRisen images
  reads_last last.Done h = absurd (let e : Done ≡ ReadFault = h in cc)
  reads_last last.Stuck h = absurd (let e : Stuck ≡ ReadFault = h in cc)
  reads_last (last.Full node) h = absurd (let e : JournalFull node ≡ ReadFault = h in cc)

  tells_read : (form : Form) (settings : Settings) (o : Option Run) → Tells policy chance form settings script images sink o ReadFault → HasRisen script ⊎ HasRisen images
  tells_read form settings (Some run) t = reads_last run.last (sym t.printed.0)
  tells_read form settings None t = elim t.causes [ inl c ↦ inl c.0 | inr c ↦ inr c.failed ]

  tells_write : (form : Form) (settings : Settings) (o : Option Run) → Tells policy chance form settings script images sink o WriteFault → HasRisen sink
  tells_write form settings (Some run) t = front_rose sink (writes_of form t.orders run) t.printed
  tells_write form settings None t = absurd t.causes

-- nothing that is at hand fails
none_rose : {A : Type 0} → Rose 0 0 → A
none_rose h = absurd (omega (arith, h))

module _ (policy : Policy) (chance : Stream) {O : Type 0} (settings : Settings) (sink : Seen O (List ℕ)) where
  work_read : {A : Type 0} (ended : Ended) → TellsWork policy chance settings sink ended → ended.why ≡ ReadFault → A
  work_read ended (inl r) e =
      elim (tells_read policy chance (kept r.work.script) (kept r.work.images) sink Summary settings ended.run (subst (Tells policy chance Summary settings (kept r.work.script) (kept r.work.images) sink ended.run) e r.answers.tells))
      [ inl h ↦ none_rose h | inr h ↦ none_rose h ]
  work_read ended (inr m) e = absurd (subst (IsUnmade (seed_of settings.seed)) e m.cause)

  work_write : (ended : Ended) → TellsWork policy chance settings sink ended → ended.why ≡ WriteFault → HasRisen sink
  work_write ended (inl r) e =
      tells_write policy chance (kept r.work.script) (kept r.work.images) sink Summary settings ended.run (subst (Tells policy chance Summary settings (kept r.work.script) (kept r.work.images) sink ended.run) e r.answers.tells)
  work_write ended (inr m) e = absurd (subst (IsUnmade (seed_of settings.seed)) e m.cause)

module _ (policy : Policy) (chance : Stream) {S I O : Type 0} (script : Seen S (List ℕ)) (images : Seen I (List NamedFile)) (sink : Seen O (List ℕ)) where
  refuses_not : (only told' : Why) (ended : Ended) → Refuses only script images sink ended → ended.why ≡ told' → (only ≡ told' → ⊥) → (NoMemory ≡ told' → ⊥) → ⊥
  refuses_not only told' ended r e h k = elim r.why [ inl same ↦ h (sym same ∙ e) | inr memory ↦ k (sym memory ∙ e) ]

  asm_write : (text : List ℕ) → WritesFile text sink WriteFault → HasRisen sink
  asm_write text w = front_rose sink (chunks_of w.0) w.2

  mode_read : (m : Mode) (settings : Settings) (ended : Ended) → AnswersIn policy chance m settings script images sink ended → ended.why ≡ ReadFault → HasRisen script ⊎ HasRisen images
  mode_read mode.Run settings ended a e = tells_read policy chance script images sink (Report settings.events) settings ended.run (subst (Tells policy chance (Report settings.events) settings script images sink ended.run) e a.answers.tells)
  mode_read mode.Asm settings ended a e = inl (a.read_fault e)
  mode_read mode.Gen settings ended a e = work_read policy chance settings sink ended a.work e

  mode_write : (m : Mode) (settings : Settings) (ended : Ended) → AnswersIn policy chance m settings script images sink ended → ended.why ≡ WriteFault → HasRisen sink
  mode_write mode.Run settings ended a e = tells_write policy chance script images sink (Report settings.events) settings ended.run (subst (Tells policy chance (Report settings.events) settings script images sink ended.run) e a.answers.tells)
  mode_write mode.Asm settings ended a e = asm_write a.assembly.text (subst (WritesFile a.assembly.text sink) e a.assembly.written)
  mode_write mode.Gen settings ended a e = work_write policy chance settings sink ended a.work e

  pub read_cause : (words : Option Settings) (ended : Ended) → Answers policy chance words script images sink ended → ended.why ≡ ReadFault → HasRisen script ⊎ HasRisen images
  read_cause None ended a e = absurd (refuses_not BadWords ReadFault ended a e (λ h. cc) (λ h. cc))
  read_cause (Some settings) ended a e = mode_read settings.mode settings ended a e

  pub write_cause : (words : Option Settings) (ended : Ended) → Answers policy chance words script images sink ended → ended.why ≡ WriteFault → HasRisen sink
  write_cause None ended a e = absurd (refuses_not BadWords WriteFault ended a e (λ h. cc) (λ h. cc))
  write_cause (Some settings) ended a e = mode_write settings.mode settings ended a e
