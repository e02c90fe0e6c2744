-- Images, one line after the other.
use Rattle.std.proofs.Common.{◌≡◌, ℕ, ◌+◌, ◌≤◌, ◌<◌, ◌==◌, ◌||◌, List, [], ◌∷◌, ◌++◌, length, drop, get_or, refl, ap, ◌∙◌, sym, subst, arith, append_assoc, Option, Some, None, Result, Ok, Err, Bool, true, false, cond, nat_lt}
use Rattle.std.proofs.lemmas.Bool.Decides.{nat_tests}
use Rattle.std.proofs.lemmas.List.{append-nil, drop_more, drop_all}
use Rattle.std.specs.List.{list_any}
use Rattle.call_table.specs.declared.limit.TheConstants.{IMAGE_BYTES}
use Rattle.outside.specs.Outside.{NamedFile, file_named, Loaded, Misses}
use Rattle.outside.specs.declared.traits.LoadFault.{LoadFault}
use Rattle.outside.specs.declared.traits.LoadFault.TheVariants as fault
use Rattle.node_event.specs.declared.script.Order.{Order}
use Rattle.node_event.specs.declared.script.Order.TheVariants.{Run, Kill, Move, Feed, Eof, Wait, After, Held, Slots}
use Rattle.node_event.specs.declared.script.ScriptLine.{ScriptLine}
use Rattle.user_spec.specs.User.{UserState}
use Rattle.elf_load.specs.Image.{image_of}
use Rattle.mosix_shell.specs.Told.{WhereTold}
use Rattle.mosix_shell.specs.Orders.{FitsStack, FitStacks}
use Rattle.mosix_shell.specs.Images.{RunLine, run_in, runs_of, name_of, image_in, image_named, Refusal, with_rest, with_image, behind, images_of, IsImageOf, AreSomeImages, AreImagesOf, IsUnloaded, by_fault, IsKindOf, IsImageRefused, refusal_of, AddsImage, IsLineRefused, LoadsOn}
use Rattle.mosix_shell.specs.declared.images.Unloaded.{Unloaded}
use Rattle.mosix_shell.specs.declared.images.Unloaded.TheVariants.{Refused, Failed, WantsMemory}
use Rattle.mosix_shell.specs.declared.why.Why.{Why}
use Rattle.mosix_shell.specs.declared.why.Why.TheVariants.{Done, Stuck, BadWords, BadScript, BadImage, ReadFault, WriteFault, NoMemory, JournalFull, BadSource}

-- ---- one image

not_long : (n : ℕ) → n ≤ IMAGE_BYTES → nat_lt IMAGE_BYTES n ≡ false
not_long n h = grind (arith, nat_tests)

too_long : (n : ℕ) → IMAGE_BYTES < n → nat_lt IMAGE_BYTES n ≡ true
too_long n h = grind (arith, nat_tests)

imaged : (files : Option (List NamedFile)) (words : List (List ℕ)) (file : List ℕ) (r : Result UserState ℕ) → Loaded files (name_of words) (Ok file) → image_of file words ≡ r → WhereTold files (λ fs. image_named fs words ≡ r)
imaged None words file r h e = tt
imaged (Some fs) words file r h e = ap (λ o. image_in o words) h.0 ∙ ap (λ b. cond b (Err 13) (image_of file words)) (not_long (length file) h.1) ∙ e

pub image_is : (files : Option (List NamedFile)) (called : List ℕ) (words : List (List ℕ)) (file read : List ℕ) (u : UserState) → Loaded files called (Ok file) → called ≡ name_of words → read ≡ file → image_of read words ≡ Ok u → IsImageOf files words u
image_is files called words file read u h c r e =
    let is : image_of file words ≡ Ok u = sym (ap (λ x. image_of x words) r) ∙ e in
    record { file = file; image = is; named = imaged files words file (Ok u) (subst (λ x. Loaded files x (Ok file)) c h) is }

kind_is : (files : Option (List NamedFile)) (words : List (List ℕ)) (file : List ℕ) (x : Unloaded) → Loaded files (name_of words) (Ok file) → IsKindOf (image_of file words) x → IsImageRefused files words x
kind_is files words file (Refused kind) h k = imaged files words file (Err kind) h k
kind_is files words file Failed h k = tt
kind_is files words file WantsMemory h k = tt

pub kind_told : (files : Option (List NamedFile)) (called : List ℕ) (words : List (List ℕ)) (file read : List ℕ) (x : Unloaded) → Loaded files called (Ok file) → called ≡ name_of words → read ≡ file → IsKindOf (image_of read words) x → IsImageRefused files words x
kind_told files called words file read x h c r k =
    kind_is files words file x (subst (λ n. Loaded files n (Ok file)) c h) (subst (λ y. IsKindOf (image_of y words) x) r k)

missed_in : (words : List (List ℕ)) (found : Option (List ℕ)) (e : LoadFault) → Misses found e → IsImageRefused None words (by_fault e)
missed_in words found fault.Absent h = tt
missed_in words found fault.TooLong h = tt
missed_in words found fault.Failed h = tt
missed_in words found fault.NoMemory h = tt

missed_from : (fs : List NamedFile) (words : List (List ℕ)) (e : LoadFault) → Misses (file_named fs (name_of words)) e → IsImageRefused (Some fs) words (by_fault e)
missed_from fs words fault.Absent h = ap (λ o. image_in o words) h
missed_from fs words fault.TooLong h = ap (λ o. image_in o words) h.1 ∙ ap (λ b. cond b (Err 13) (image_of h.0 words)) (too_long (length h.0) h.2)
missed_from fs words fault.Failed h = tt
missed_from fs words fault.NoMemory h = tt

untold_refused : (words : List (List ℕ)) (x : Unloaded) → IsImageRefused None words x
untold_refused words (Refused kind) = tt
untold_refused words Failed = tt
untold_refused words WantsMemory = tt

missed : (files : Option (List NamedFile)) (words : List (List ℕ)) (e : LoadFault) → Loaded files (name_of words) (Err e) → IsImageRefused files words (by_fault e)
missed None words e h = untold_refused words (by_fault e)
missed (Some fs) words e h = missed_from fs words e h

pub missed_told : (files : Option (List NamedFile)) (called : List ℕ) (words : List (List ℕ)) (e : LoadFault) (x : Unloaded) → Loaded files called (Err e) → called ≡ name_of words → x ≡ by_fault e → IsImageRefused files words x
missed_told files called words e x h c is = subst (IsImageRefused files words) (sym is) (missed files words e (subst (λ n. Loaded files n (Err e)) c h))

pub failed_by : (e : LoadFault) (x : Unloaded) → x ≡ by_fault e → x ≡ Failed → e ≡ fault.Failed
failed_by fault.Absent x is h = absurd (let e : ◌≡◌ {A = Unloaded} (Refused 12) Failed = sym is ∙ h in cc)
failed_by fault.TooLong x is h = absurd (let e : ◌≡◌ {A = Unloaded} (Refused 13) Failed = sym is ∙ h in cc)
failed_by fault.Failed x is h = refl
failed_by fault.NoMemory x is h = absurd (let e : ◌≡◌ {A = Unloaded} WantsMemory Failed = sym is ∙ h in cc)

-- ---- one line

pub line_refused : (files : Option (List NamedFile)) (line : ℕ) (words : List (List ℕ)) (x : Unloaded) (why : Why) → IsImageRefused files words x → why ≡ refusal_of line x → IsLineRefused files line (Run words) why
line_refused files line words (Refused kind) why h e = subst (IsLineRefused files line (Run words)) (sym e) (refl, h)
line_refused files line words Failed why h e = subst (IsLineRefused files line (Run words)) (sym e) tt
line_refused files line words WantsMemory why h e = subst (IsLineRefused files line (Run words)) (sym e) tt

pub refusal_failed : (line : ℕ) (x : Unloaded) (why : Why) → why ≡ refusal_of line x → why ≡ ReadFault → x ≡ Failed
refusal_failed line (Refused kind) why e h = absurd (let i : BadImage line kind ≡ ReadFault = sym e ∙ h in cc)
refusal_failed line Failed why e h = refl
refusal_failed line WantsMemory why e h = absurd (let i : NoMemory ≡ ReadFault = sym e ∙ h in cc)

-- ---- one line after the other

behind_none : (r : Result (List UserState) Refusal) → r ≡ behind [] r
behind_none (Ok us) = refl
behind_none (Err refusal) = refl

told_start : (files : Option (List NamedFile)) (rs : List RunLine) → WhereTold files (λ fs. images_of fs rs ≡ behind [] (images_of fs rs))
told_start None rs = tt
told_start (Some fs) rs = behind_none (images_of fs rs)

pub loads_start : (files : Option (List NamedFile)) (rs : List RunLine) → LoadsOn files rs [] rs
loads_start files rs = record { each = λ us h. h; named = told_start files rs; lines = λ line h. h }

behind_with : (users : List UserState) (u : UserState) (r : Result (List UserState) Refusal) → behind users (with_rest u r) ≡ behind (users ++ u ∷ []) r
behind_with users u (Ok us) = ap (λ (xs : List UserState). Ok xs) (sym (append_assoc users (u ∷ []) us))
behind_with users u (Err refusal) = refl

told_more : (files : Option (List NamedFile)) (whole rs : List RunLine) (r : RunLine) (users : List UserState) (u : UserState) → WhereTold files (λ fs. image_named fs r.words ≡ Ok u)
    → WhereTold files (λ fs. images_of fs whole ≡ behind users (images_of fs (r ∷ rs))) → WhereTold files (λ fs. images_of fs whole ≡ behind (users ++ u ∷ []) (images_of fs rs))
told_more None whole rs r users u h k = tt
told_more (Some fs) whole rs r users u h k = k ∙ ap (λ i. behind users (with_image r.line i (images_of fs rs))) h ∙ behind_with users u (images_of fs rs)

or_true : (a b : Bool) → b ≡ true → (a || b) ≡ true
or_true true b h = refl
or_true false b h = h

pub loads_more : (files : Option (List NamedFile)) (whole rs : List RunLine) (r : RunLine) (users : List UserState) (u : UserState) → IsImageOf files r.words u → LoadsOn files whole users (r ∷ rs) → LoadsOn files whole (users ++ u ∷ []) rs
loads_more files whole rs r users u i k = record {
  each = λ us h. subst (AreSomeImages whole) (sym (append_assoc users (u ∷ []) us)) (k.each (u ∷ us) ((i.file, i.image), h));
  named = told_more files whole rs r users u i.named k.named;
  lines = λ line h. k.lines line (or_true (r.line == line) (list_any (λ (x : RunLine). x.line == line) rs) h);
}

told_end : (files : Option (List NamedFile)) (whole : List RunLine) (users : List UserState) → WhereTold files (λ fs. images_of fs whole ≡ Ok (users ++ [])) → WhereTold files (λ fs. images_of fs whole ≡ Ok users)
told_end None whole users h = tt
told_end (Some fs) whole users h = h ∙ ap (λ (xs : List UserState). Ok xs) (append-nil users)

pub loads_end : (files : Option (List NamedFile)) (whole : List RunLine) (users : List UserState) → LoadsOn files whole users [] → AreImagesOf files whole users
loads_end files whole users k = record { each = subst (AreSomeImages whole) (append-nil users) (k.each [] tt); named = told_end files whole users k.named }

told_refused : (files : Option (List NamedFile)) (whole rs : List RunLine) (r : RunLine) (users : List UserState) (line kind : ℕ) → line ≡ r.line → WhereTold files (λ fs. image_named fs r.words ≡ Err kind)
    → WhereTold files (λ fs. images_of fs whole ≡ behind users (images_of fs (r ∷ rs))) → WhereTold files (λ fs. images_of fs whole ≡ Err (record { line = line; kind = kind }))
told_refused None whole rs r users line kind e h k = tt
told_refused (Some fs) whole rs r users line kind e h k =
    k ∙ ap (λ i. behind users (with_image r.line i (images_of fs rs))) h
    ∙ ap (λ n. let x : Result (List UserState) Refusal = Err (record { line = n; kind = kind }) in x) (sym e)

first_line : (n line : ℕ) (b : Bool) → line ≡ n → ((n == line) || b) ≡ true
first_line n line b e = grind (arith, nat_tests)

pub loads_refused : (files : Option (List NamedFile)) (whole rs : List RunLine) (line : ℕ) (words : List (List ℕ)) (users : List UserState) (why : Why)
    → IsLineRefused files line (Run words) why → LoadsOn files whole users (record { line = line; words = words } ∷ rs) → IsUnloaded files whole why
loads_refused files whole rs line words users (BadImage l kind) h k = record {
  of_line = k.lines l (first_line line l (list_any (λ (x : RunLine). x.line == l) rs) h.0);
  named = told_refused files whole rs (record { line = line; words = words }) users l kind h.0 h.1 k.named;
}
loads_refused files whole rs line words users ReadFault h k = tt
loads_refused files whole rs line words users NoMemory h k = tt
loads_refused files whole rs line words users Done h k = absurd h
loads_refused files whole rs line words users Stuck h k = absurd h
loads_refused files whole rs line words users BadWords h k = absurd h
loads_refused files whole rs line words users (BadScript l kind) h k = absurd h
loads_refused files whole rs line words users WriteFault h k = absurd h
loads_refused files whole rs line words users (JournalFull node) h k = absurd h
loads_refused files whole rs line words users (BadSource l kind) h k = absurd h

-- ---- the same of the lines of a script, by their orders

order_more : (files : Option (List NamedFile)) (whole rest : List RunLine) (line : ℕ) (o : Order) (old new : List UserState) → AddsImage files o old new → LoadsOn files whole old (run_in line o ++ rest) → LoadsOn files whole new rest
order_more files whole rest line (Run words) old new h k =
    subst (λ us. LoadsOn files whole us rest) (sym h.2) (loads_more files whole rest (record { line = line; words = words }) old h.0 h.1 k)
order_more files whole rest line (Kill pid signal) old new h k = subst (λ us. LoadsOn files whole us rest) (sym h) k
order_more files whole rest line (Move pid to) old new h k = subst (λ us. LoadsOn files whole us rest) (sym h) k
order_more files whole rest line (Feed text) old new h k = subst (λ us. LoadsOn files whole us rest) (sym h) k
order_more files whole rest line Eof old new h k = subst (λ us. LoadsOn files whole us rest) (sym h) k
order_more files whole rest line (Wait pid) old new h k = subst (λ us. LoadsOn files whole us rest) (sym h) k
order_more files whole rest line (After pid count) old new h k = subst (λ us. LoadsOn files whole us rest) (sym h) k
order_more files whole rest line (Held pid) old new h k = subst (λ us. LoadsOn files whole us rest) (sym h) k
order_more files whole rest line (Slots count) old new h k = subst (λ us. LoadsOn files whole us rest) (sym h) k

order_refused : (files : Option (List NamedFile)) (whole rest : List RunLine) (line : ℕ) (o : Order) (users : List UserState) (why : Why) → IsLineRefused files line o why → LoadsOn files whole users (run_in line o ++ rest) → IsUnloaded files whole why
order_refused files whole rest line (Run words) users why h k = loads_refused files whole rest line words users why h k
order_refused files whole rest line (Kill pid signal) users why h k = absurd h
order_refused files whole rest line (Move pid to) users why h k = absurd h
order_refused files whole rest line (Feed text) users why h k = absurd h
order_refused files whole rest line Eof users why h k = absurd h
order_refused files whole rest line (Wait pid) users why h k = absurd h
order_refused files whole rest line (After pid count) users why h k = absurd h
order_refused files whole rest line (Held pid) users why h k = absurd h
order_refused files whole rest line (Slots count) users why h k = absurd h

runs_at : (orders : List ScriptLine) (i : ℕ) (l : ScriptLine) → i < length orders → l ≡ get_or orders i l → runs_of (drop i orders) ≡ run_in l.line l.order ++ runs_of (drop (i + 1) orders)
runs_at orders i l h e = ap runs_of (drop_more orders i l h) ∙ ap (λ (x : ScriptLine). run_in x.line x.order ++ runs_of (drop (i + 1) orders)) (sym e)

pub line_more : (files : Option (List NamedFile)) (whole : List RunLine) (orders : List ScriptLine) (i : ℕ) (l : ScriptLine) (old new : List UserState) → i < length orders → l ≡ get_or orders i l
    → AddsImage files l.order old new → LoadsOn files whole old (runs_of (drop i orders)) → LoadsOn files whole new (runs_of (drop (i + 1) orders))
line_more files whole orders i l old new h e a k = order_more files whole (runs_of (drop (i + 1) orders)) l.line l.order old new a (subst (LoadsOn files whole old) (runs_at orders i l h e) k)

pub line_stops : (files : Option (List NamedFile)) (whole : List RunLine) (orders : List ScriptLine) (i : ℕ) (l : ScriptLine) (users : List UserState) (why : Why) → i < length orders → l ≡ get_or orders i l
    → IsLineRefused files l.line l.order why → LoadsOn files whole users (runs_of (drop i orders)) → IsUnloaded files whole why
line_stops files whole orders i l users why h e r k = order_refused files whole (runs_of (drop (i + 1) orders)) l.line l.order users why r (subst (LoadsOn files whole users) (runs_at orders i l h e) k)

pub lines_end : (files : Option (List NamedFile)) (whole : List RunLine) (orders : List ScriptLine) (i : ℕ) (users : List UserState) → length orders ≤ i → LoadsOn files whole users (runs_of (drop i orders)) → AreImagesOf files whole users
lines_end files whole orders i users h k = loads_end files whole users (subst (LoadsOn files whole users) (ap runs_of (drop_all i orders h)) k)

pub fit_at : (orders : List ScriptLine) (i : ℕ) (l : ScriptLine) → i < length orders → l ≡ get_or orders i l → FitStacks (drop i orders) → FitsStack l.order × FitStacks (drop (i + 1) orders)
fit_at orders i l h e k =
    let at : FitStacks (get_or orders i l ∷ drop (i + 1) orders) = subst FitStacks (drop_more orders i l h) k in
    (subst (λ (x : ScriptLine). FitsStack x.order) (sym e) at.0, at.1)
