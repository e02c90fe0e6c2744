-- What mode `asm` makes of a source's text, and what it writes.
use Rattle.std.proofs.Common.{◌≡◌, ℕ, ◌+◌, ◌<◌, ◌≤◌, List, [], length, refl, ap, ◌∙◌, sym, subst, arith, Option, Some, None, Result, Ok, Err, true, false, cond, nat_lt, ◌⊎◌, inl, inr}
use Rattle.std.proofs.lemmas.Bool.{cases_lt}
use Rattle.std.proofs.lemmas.Bool.Decides.{nat_tests}
use Rattle.outside.specs.Outside.{NamedFile, Rose}
use Rattle.rv_asm.specs.Assembly.{assembled, assembled_lines, text_limit}
use Rattle.rv_asm.specs.Lines.{lines_of}
use Rattle.rv_asm.specs.declared.fault.Fault.{Fault}
use Rattle.rv_asm.specs.declared.fault.FaultKind.TheVariants.{TooLong}
use Rattle.asm_laws.proofs.Loads.{text_loads}
use Rattle.shell_text.specs.Printing.{StopsBy}
use Rattle.shell_text.specs.Report.{chunks_of}
use Rattle.shell_text.specs.declared.writing.PrintFault.{PrintFault}
use Rattle.shell_text.specs.declared.writing.PrintFault.TheVariants as print
use Rattle.mosix_shell.proofs.Readings.{still_read, none_read}
use Rattle.call_table.specs.declared.limit.TheConstants.{SOURCE_BYTES}
use Rattle.mosix_shell.specs.Reading.{IsReadPast, Reads}
use Rattle.mosix_shell.specs.Told.{Seen, IsTextOf, told, tells_now, HasRisen, IsUntouched}
use Rattle.mosix_shell.specs.Why.{line_of, cuts_short}
use Rattle.mosix_shell.specs.Writing.{WritesAll, WritesFront, WritesLine}
use Rattle.mosix_shell.specs.Answers.{AsmAnswers}
use Rattle.mosix_shell.specs.declared.mosix.Ended.{Ended}
use Rattle.mosix_shell.specs.Assembling.{IsMadeOf, IsFaultOf, IsMadeFrom, IsFileOf, WritesFile, IsAssembly}
use Rattle.mosix_shell.specs.declared.why.Why.{Why}
use Rattle.mosix_shell.specs.declared.why.Why.TheVariants.{Done, Stuck, BadWords, BadScript, BadImage, ReadFault, WriteFault, NoMemory, JournalFull, BadSource}

-- ---- the text

not_long : (n : ℕ) → text_limit < n → nat_lt text_limit n ≡ true
not_long n h = grind (arith, nat_tests)

too_long : (text : List ℕ) → text_limit < length text → assembled text ≡ Err (record { line = 0; kind = TooLong })
too_long text h = ap (λ b. cond b (Err (record { line = 0; kind = TooLong })) (assembled_lines (lines_of text))) (not_long (length text) h)

-- what is longer than the limit is refused by its length alone
same_outcome : (limit : ℕ) (left text : List ℕ) → text_limit ≤ limit → IsReadPast limit (Some left) text → assembled text ≡ assembled left
same_outcome limit left text most h =
    elim (cases_lt limit (length left)) as (λ _. assembled text ≡ assembled left) [
      | inl long ↦ let more : limit < length text = h.1 long in too_long text (omega arith) ∙ sym (too_long left (omega arith))
      | inr short ↦ ap assembled (h.0 short)
    ]

pub made_from : (limit : ℕ) (left : Option (List ℕ)) (text : List ℕ) (made : Result (List ℕ) Why) → text_limit ≤ limit → IsReadPast limit left text → IsMadeOf (assembled text) made → IsMadeFrom left made
made_from limit None text made most h m = record { text = text; text_is = tt; made_is = m }
made_from limit (Some left) text made most h m = record { text = left; text_is = refl; made_is = subst (λ r. IsMadeOf r made) (same_outcome limit left text most h) m }

-- nothing was read
pub made_nothing : (left : Option (List ℕ)) (why : Why) → ((outcome : Result (List ℕ) Fault) → IsFaultOf outcome why) → IsMadeFrom left (Err why)
made_nothing None why h = record { text = []; text_is = tt; made_is = h (assembled []) }
made_nothing (Some left) why h = record { text = left; text_is = refl; made_is = h (assembled left) }

-- ---- what is written

module _ {O : Type 0} (sink : Seen O (List ℕ)) where
  -- an answer without a file writes its line
  fault_writes : (text : List ℕ) (why : Why) → IsFaultOf (assembled text) why → WritesLine sink (line_of why) → WritesFile text sink why
  fault_writes text (BadSource line kind) f w = (f, w)
  fault_writes text ReadFault f w = w
  fault_writes text NoMemory f w = w
  fault_writes text Done f w = absurd f
  fault_writes text Stuck f w = absurd f
  fault_writes text BadWords f w = absurd f
  fault_writes text (BadScript line kind) f w = absurd f
  fault_writes text (BadImage line kind) f w = absurd f
  fault_writes text WriteFault f w = absurd f
  fault_writes text (JournalFull node) f w = absurd f

  refused_or : (text : List ℕ) (why told : Why) → IsFaultOf (assembled text) why → ((told ≡ why) ⊎ (told ≡ NoMemory)) → WritesLine sink (line_of told) → WritesFile text sink told
  refused_or text why told f (inl e) w = fault_writes text told (subst (IsFaultOf (assembled text)) (sym e) f) w
  refused_or text why told f (inr e) w = subst (WritesFile text sink) (sym e) (subst (λ y. WritesLine sink (line_of y)) e w)

  refused_file : (left : Option (List ℕ)) (why told : Why) → IsMadeFrom left (Err why) → ((told ≡ why) ⊎ (told ≡ NoMemory)) → WritesLine sink (line_of told) → IsAssembly left sink told
  refused_file left why told m e w = record { text = m.text; text_is = m.text_is; written = refused_or m.text why told m.made_is e w }

  file_of : (left : Option (List ℕ)) (file : List ℕ) (m : IsMadeFrom left (Ok file)) → IsFileOf m.text file
  file_of left file m = record { assembled_is = m.made_is; loads = text_loads m.text file m.made_is }

  wrote_file : (left : Option (List ℕ)) (file given : List ℕ) → IsMadeFrom left (Ok file) → given ≡ file → WritesAll sink (chunks_of given) → IsAssembly left sink Done
  wrote_file left file given m same a = record {
    text = m.text;
    text_is = m.text_is;
    written = (file, file_of left file m, subst (λ x. WritesAll sink (chunks_of x)) same a);
  }

  wrote_front : (left : Option (List ℕ)) (file given : List ℕ) → IsMadeFrom left (Ok file) → given ≡ file → WritesFront sink (chunks_of given) → IsAssembly left sink WriteFault
  wrote_front left file given m same a = record {
    text = m.text;
    text_is = m.text_is;
    written = (file, file_of left file m, subst (λ x. WritesFront sink (chunks_of x)) same a);
  }

-- ---- what the mode promises

fault_told : (why told : Why) (before now : ℕ) → (why ≡ ReadFault → Rose before now) → ((told ≡ why) ⊎ (told ≡ NoMemory)) → told ≡ ReadFault → Rose before now
fault_told why told before now h (inl e) is = h (sym e ∙ is)
fault_told why told before now h (inr e) is = let x : NoMemory ≡ ReadFault = sym e ∙ is in cc

done_no_fault : {A : Type 0} → Done ≡ ReadFault → A
done_no_fault h = cc

write_no_fault : {A : Type 0} → WriteFault ≡ ReadFault → A
write_no_fault h = cc

memory_no_fault : {A : Type 0} → NoMemory ≡ ReadFault → A
memory_no_fault h = cc

some_text : (left : Option (List ℕ)) → (text : List ℕ) × IsTextOf left text
some_text None = ([], tt)
some_text (Some left) = (left, refl)

module _ {S I O : Type 0} (text : Seen S (List ℕ)) (images : Seen I (List NamedFile)) (sink : Seen O (List ℕ)) where
  pub refused : (ended : Ended) (why : Why) → IsUntouched images → ended.run ≡ None → ((ended.why ≡ why) ⊎ (ended.why ≡ NoMemory)) → IsMadeFrom (told text) (Err why)
      → Reads (SOURCE_BYTES + 1) (told text) (tells_now text) (cuts_short why) → (why ≡ ReadFault → HasRisen text) → WritesLine sink (line_of ended.why) → AsmAnswers text images sink ended
  refused ended why unread none is m reads fault w = record {
    no_run = none;
    assembly = refused_file sink (told text) why ended.why m is w;
    reads = still_read (SOURCE_BYTES + 1) (told text) (tells_now text) why ended.why reads is;
    unread = unread;
    read_fault = fault_told why ended.why (text.faults text.old) (text.faults text.new) fault is;
  }

  pub wrote : (ended : Ended) (status : ℕ) (file given : List ℕ) → IsUntouched images → ended ≡ record { status = status; why = Done; run = None } → IsMadeFrom (told text) (Ok file)
      → Reads (SOURCE_BYTES + 1) (told text) (tells_now text) false → given ≡ file → WritesAll sink (chunks_of given) → AsmAnswers text images sink ended
  wrote ended status file given unread is m reads same a = subst (AsmAnswers text images sink) (sym is) (record {
    no_run = refl;
    assembly = wrote_file sink (told text) file given m same a;
    reads = reads;
    unread = unread;
    read_fault = λ h. done_no_fault h;
  })

  pub wrote_part : (ended : Ended) (status : ℕ) (file given : List ℕ) (e : PrintFault) → IsUntouched images → ended ≡ record { status = status; why = WriteFault; run = None } → IsMadeFrom (told text) (Ok file)
      → Reads (SOURCE_BYTES + 1) (told text) (tells_now text) false → given ≡ file → e ≡ print.Failed → StopsBy sink.tells sink.faults (chunks_of given) sink.old sink.new e → AsmAnswers text images sink ended
  wrote_part ended status file given e unread is m reads same f a = subst (AsmAnswers text images sink) (sym is) (record {
    no_run = refl;
    assembly = wrote_front sink (told text) file given m same (subst (StopsBy sink.tells sink.faults (chunks_of given) sink.old sink.new) f a);
    reads = reads;
    unread = unread;
    read_fault = λ h. write_no_fault h;
  })

  -- want of memory before anything was read
  pub no_memory : (ended : Ended) (status : ℕ) → IsUntouched text → IsUntouched images → IsUntouched sink → ended ≡ record { status = status; why = NoMemory; run = None } → AsmAnswers text images sink ended
  no_memory ended status same unread silent is = subst (AsmAnswers text images sink) (sym is) (record {
    no_run = refl;
    assembly = record { text = (some_text (told text)).0; text_is = (some_text (told text)).1; written = silent };
    reads = subst (λ x. Reads (SOURCE_BYTES + 1) (told text) (text.tells x) true) (sym same) (none_read (SOURCE_BYTES + 1) (told text));
    unread = unread;
    read_fault = λ h. memory_no_fault h;
  })
