-- The facts of the small machine.
use Rattle.std.proofs.Common.{arith, ◌≡◌, ◌<◌, ◌≤◌, ◌≢◌, ℕ, ◌+◌, ◌==◌, Bool, true, false, cond, Option, Some, None, List, refl, sym, ap, ◌∙◌}
use Rattle.std.specs.Prelude.{ℤ, nat_lt, slice_get}
use Rattle.std.proofs.lemmas.Bool.Decides.{nat_tests}
use Rattle.call_table.specs.declared.process.End.{End}
use Rattle.call_table.specs.declared.process.End.TheVariants as end
use Rattle.node_event.specs.declared.script.ScriptLine.{ScriptLine}
use Rattle.protocol.specs.Ops.{Sound, IsMove, Acted, is_child, counted}
use Rattle.protocol.specs.Gossip.{Sight, Choice, IsKnown, IsMovable}
use Rattle.protocol.specs.Deeds.{order_at}
use Rattle.run_laws.specs.SmallMachine.{Request, ExitCall, ForkCall, ReadCall, WriteCall, KillCall, FaultAt, Thing, Program, Table, grown, ended, gone, with_todo, living, launch_by, fork_by, hit_by, raised_at, served_by, signal_or, taken_by, no_choice, small_of, small, end_by}
use Rattle.protocol.proofs.Talk.{same_numbers}
use Rattle.protocol.proofs.Process.{cond_here, cond_off}

some_table : (k l : Table) → Some k ≡ Some l → k ≡ l
some_table k l e = cc

some_acted : (k l : Acted Table ℤ) → Some k ≡ Some l → k ≡ l
some_acted k l e = cc

some_child : (k l : ℕ) → Some k ≡ Some l → k ≡ l
some_child k l e = cc

child_apart : (c q : ℕ) → is_child (Some c) q ≡ false → q ≢ c
child_apart c q h e = let z : true ≡ false = sym (same_numbers c q (sym e)) ∙ h in cc

raised_count : (b : Bool) (p s : ℕ) (k : Table) → (raised_at b p s k).count ≡ k.count
raised_count true p s k = refl
raised_count false p s k = refl

raised_alive : (b : Bool) (p s q : ℕ) (k : Table) → (raised_at b p s k).alive q ≡ k.alive q
raised_alive true p s q k = refl
raised_alive false p s q k = refl

taken_count : (b : Bool) (p : ℕ) (k : Table) → (taken_by b p k).count ≡ k.count
taken_count true p k = refl
taken_count false p k = refl

taken_alive : (b : Bool) (p q : ℕ) (k : Table) → q ≢ p → (taken_by b p k).alive q ≡ k.alive q
taken_alive true p q k ne = cond_off q p false (k.alive q) ne
taken_alive false p q k ne = refl

lowest_alive : (b : Bool) (o : Option ℕ) (s : ℕ) → cond b o None ≡ Some s → b ≡ true
lowest_alive true o s e = refl
lowest_alive false o s e = absurd cc

serve_count : (k : Table) (p : ℕ) (r : Request) (d : Acted Table ℤ) → served_by k p r ≡ Some d → d.kernel.count ≡ counted d.child k.count
serve_count k p (ExitCall code) d e = let x = some_acted _ d e in ap (λ (z : Acted Table ℤ). z.kernel.count) (sym x) ∙ (raised_count ((ended p (end.Exit code) k).alive (k.parent p)) (k.parent p) 17 (ended p (end.Exit code) k) ∙ ap (λ (z : Acted Table ℤ). counted z.child k.count) x)
serve_count k p ForkCall d e = go (nat_lt (living k) 64) e
  where
    go : (b : Bool) → Some (fork_by b p k) ≡ Some d → d.kernel.count ≡ counted d.child k.count
    go true e = let x = some_acted _ d e in ap (λ (z : Acted Table ℤ). z.kernel.count) (sym x) ∙ ap (λ (z : Acted Table ℤ). counted z.child k.count) x
    go false e = let x = some_acted _ d e in ap (λ (z : Acted Table ℤ). z.kernel.count) (sym x) ∙ ap (λ (z : Acted Table ℤ). counted z.child k.count) x
serve_count k p ReadCall d e = absurd cc
serve_count k p (WriteCall count) d e = let x = some_acted _ d e in ap (λ (z : Acted Table ℤ). z.kernel.count) (sym x) ∙ ap (λ (z : Acted Table ℤ). counted z.child k.count) x
serve_count k p (KillCall q s) d e = let x = some_acted _ d e in ap (λ (z : Acted Table ℤ). z.kernel.count) (sym x) ∙ (raised_count (k.alive q) q s k ∙ ap (λ (z : Acted Table ℤ). counted z.child k.count) x)
serve_count k p (FaultAt s) d e = absurd cc

serve_child : (k : Table) (p : ℕ) (r : Request) (d : Acted Table ℤ) (c : ℕ) → served_by k p r ≡ Some d → d.child ≡ Some c → c ≡ k.count + 1
serve_child k p (ExitCall code) d c e f = let z : None ≡ Some c = ap (λ (z : Acted Table ℤ). z.child) (some_acted _ d e) ∙ f in absurd cc
serve_child k p ForkCall d c e f = go (nat_lt (living k) 64) e
  where
    go : (b : Bool) → Some (fork_by b p k) ≡ Some d → c ≡ k.count + 1
    go true e = sym (some_child (k.count + 1) c (ap (λ (z : Acted Table ℤ). z.child) (some_acted _ d e) ∙ f))
    go false e = let z : None ≡ Some c = ap (λ (z : Acted Table ℤ). z.child) (some_acted _ d e) ∙ f in absurd cc
serve_child k p ReadCall d c e f = absurd cc
serve_child k p (WriteCall count) d c e f = let z : None ≡ Some c = ap (λ (z : Acted Table ℤ). z.child) (some_acted _ d e) ∙ f in absurd cc
serve_child k p (KillCall q s) d c e f = let z : None ≡ Some c = ap (λ (z : Acted Table ℤ). z.child) (some_acted _ d e) ∙ f in absurd cc
serve_child k p (FaultAt s) d c e f = absurd cc

serve_alive : (k : Table) (p : ℕ) (r : Request) (d : Acted Table ℤ) (q : ℕ) → served_by k p r ≡ Some d → q ≢ p → is_child d.child q ≡ false → d.kernel.alive q ≡ k.alive q
serve_alive k p (ExitCall code) d q e ne h = ap (λ (z : Acted Table ℤ). z.kernel.alive q) (sym (some_acted _ d e)) ∙ (raised_alive ((ended p (end.Exit code) k).alive (k.parent p)) (k.parent p) 17 q (ended p (end.Exit code) k) ∙ cond_off q p false (k.alive q) ne)
serve_alive k p ForkCall d q e ne h = go (nat_lt (living k) 64) e
  where
    go : (b : Bool) → Some (fork_by b p k) ≡ Some d → d.kernel.alive q ≡ k.alive q
    go true e = ap (λ (z : Acted Table ℤ). z.kernel.alive q) (sym (some_acted _ d e)) ∙ cond_off q (k.count + 1) true (k.alive q) (child_apart (k.count + 1) q (ap (λ (z : Acted Table ℤ). is_child z.child q) (some_acted _ d e) ∙ h))
    go false e = ap (λ (z : Acted Table ℤ). z.kernel.alive q) (sym (some_acted _ d e))
serve_alive k p ReadCall d q e ne h = absurd cc
serve_alive k p (WriteCall count) d q e ne h = ap (λ (z : Acted Table ℤ). z.kernel.alive q) (sym (some_acted _ d e))
serve_alive k p (KillCall x s) d q e ne h = ap (λ (z : Acted Table ℤ). z.kernel.alive q) (sym (some_acted _ d e)) ∙ raised_alive (k.alive x) x s q k
serve_alive k p (FaultAt s) d q e ne h = absurd cc

serve_born : (k : Table) (p : ℕ) (r : Request) (d : Acted Table ℤ) (c : ℕ) → served_by k p r ≡ Some d → d.child ≡ Some c → d.kernel.alive c ≡ true
serve_born k p (ExitCall code) d c e f = let z : None ≡ Some c = ap (λ (z : Acted Table ℤ). z.child) (some_acted _ d e) ∙ f in absurd cc
serve_born k p ForkCall d c e f = go (nat_lt (living k) 64) e
  where
    go : (b : Bool) → Some (fork_by b p k) ≡ Some d → d.kernel.alive c ≡ true
    go true e =
        let same : k.count + 1 ≡ c = some_child (k.count + 1) c (ap (λ (z : Acted Table ℤ). z.child) (some_acted _ d e) ∙ f) in
        ap (λ (z : Acted Table ℤ). z.kernel.alive c) (sym (some_acted _ d e)) ∙ (ap (λ (x : ℕ). cond (x == k.count + 1) true (k.alive x)) (sym same) ∙ cond_here (k.count + 1) true (k.alive (k.count + 1)))
    go false e = let z : None ≡ Some c = ap (λ (z : Acted Table ℤ). z.child) (some_acted _ d e) ∙ f in absurd cc
serve_born k p ReadCall d c e f = absurd cc
serve_born k p (WriteCall count) d c e f = let z : None ≡ Some c = ap (λ (z : Acted Table ℤ). z.child) (some_acted _ d e) ∙ f in absurd cc
serve_born k p (KillCall q s) d c e f = let z : None ≡ Some c = ap (λ (z : Acted Table ℤ). z.child) (some_acted _ d e) ∙ f in absurd cc
serve_born k p (FaultAt s) d c e f = absurd cc

has_end : (b : Bool) (how : End) → b ≡ false → end_by b how ≢ None
has_end true how e f = cc
has_end false how e f = cc

lt_tells : (a b : ℕ) → nat_lt a b ≡ true → a < b
lt_tells a b e = grind (arith, nat_tests)

serve_few : (k : Table) (p : ℕ) (r : Request) (d : Acted Table ℤ) (c : ℕ) → served_by k p r ≡ Some d → d.child ≡ Some c → living k < 64
serve_few k p (ExitCall code) d c e f = let z : None ≡ Some c = ap (λ (z : Acted Table ℤ). z.child) (some_acted _ d e) ∙ f in absurd cc
serve_few k p ForkCall d c e f = go (nat_lt (living k) 64) refl e
  where
    go : (b : Bool) → nat_lt (living k) 64 ≡ b → Some (fork_by b p k) ≡ Some d → living k < 64
    go true is e = lt_tells (living k) 64 is
    go false is e = let z : None ≡ Some c = ap (λ (z : Acted Table ℤ). z.child) (some_acted _ d e) ∙ f in absurd cc
serve_few k p ReadCall d c e f = absurd cc
serve_few k p (WriteCall count) d c e f = let z : None ≡ Some c = ap (λ (z : Acted Table ℤ). z.child) (some_acted _ d e) ∙ f in absurd cc
serve_few k p (KillCall q s) d c e f = let z : None ≡ Some c = ap (λ (z : Acted Table ℤ). z.child) (some_acted _ d e) ∙ f in absurd cc
serve_few k p (FaultAt s) d c e f = absurd cc

-- a launch is one where there is room
launched : (k l : Table) (b : Bool) → nat_lt (living k) 64 ≡ b → launch_by b k ≡ Some l → (grown k ≡ l) × (living k < 64)
launched k l true is e = (some_table (grown k) l e, lt_tells (living k) 64 is)
launched k l false is e = absurd cc

abbrev pid_or : Option Program → ℕ
pid_or None = 0
pid_or (Some p) = p.pid

went_pid : (u x : Program) (o : Option (List Thing)) → with_todo u o ≡ Some x → x.pid ≡ u.pid
went_pid u x None e = absurd cc
went_pid u x (Some todo) e = ap (λ (o : Option Program). pid_or o) (sym e)

-- what is deliverable at another process stays
not_child : (c q : ℕ) → is_child (Some c) q ≡ false → q ≢ c
not_child c q h e = let z : true ≡ false = sym (same_numbers c q (sym e)) ∙ h in cc

raise_quiet : (b : Bool) (k : Table) (p s q : ℕ) → is_child (cond b (Some p) None) q ≡ false → cond ((raised_at b p s k).alive q) ((raised_at b p s k).pending q) None ≡ cond (k.alive q) (k.pending q) None
raise_quiet true k p s q h = ap (λ (o : Option ℕ). cond (k.alive q) o None) (cond_off q p (Some s) (k.pending q) (not_child p q h))
raise_quiet false k p s q h = refl

hit_cond : (b : Bool) (p q : ℕ) → is_child (hit_by b p) q ≡ is_child (cond b (Some p) None) q
hit_cond true p q = refl
hit_cond false p q = refl

serve_quiet : (k : Table) (p : ℕ) (r : Request) (d : Acted Table ℤ) (q : ℕ) → served_by k p r ≡ Some d → q ≢ p → is_child d.child q ≡ false → is_child d.raised q ≡ false → cond (d.kernel.alive q) (d.kernel.pending q) None ≡ cond (k.alive q) (k.pending q) None
serve_quiet k p (ExitCall code) d q e ne h g =
    let gone : Table = ended p (end.Exit code) k in
    ap (λ (z : Acted Table ℤ). cond (z.kernel.alive q) (z.kernel.pending q) None) (sym (some_acted _ d e))
    ∙ (raise_quiet (gone.alive (k.parent p)) gone (k.parent p) 17 q (sym (hit_cond (gone.alive (k.parent p)) (k.parent p) q) ∙ (ap (λ (z : Acted Table ℤ). is_child z.raised q) (some_acted _ d e) ∙ g)) ∙ ap (λ (b : Bool). cond b (k.pending q) None) (cond_off q p false (k.alive q) ne))
serve_quiet k p ForkCall d q e ne h g = go (nat_lt (living k) 64) e
  where
    go : (b : Bool) → Some (fork_by b p k) ≡ Some d → cond (d.kernel.alive q) (d.kernel.pending q) None ≡ cond (k.alive q) (k.pending q) None
    go true e = ap (λ (z : Acted Table ℤ). cond (z.kernel.alive q) (z.kernel.pending q) None) (sym (some_acted _ d e)) ∙ ap (λ (b : Bool). cond b (k.pending q) None) (cond_off q (k.count + 1) true (k.alive q) (not_child (k.count + 1) q (ap (λ (z : Acted Table ℤ). is_child z.child q) (some_acted _ d e) ∙ h)))
    go false e = ap (λ (z : Acted Table ℤ). cond (z.kernel.alive q) (z.kernel.pending q) None) (sym (some_acted _ d e))
serve_quiet k p ReadCall d q e ne h g = absurd cc
serve_quiet k p (WriteCall count) d q e ne h g = ap (λ (z : Acted Table ℤ). cond (z.kernel.alive q) (z.kernel.pending q) None) (sym (some_acted _ d e))
serve_quiet k p (KillCall x s) d q e ne h g =
    ap (λ (z : Acted Table ℤ). cond (z.kernel.alive q) (z.kernel.pending q) None) (sym (some_acted _ d e))
    ∙ raise_quiet (k.alive x) k x s q (sym (hit_cond (k.alive x) x q) ∙ (ap (λ (z : Acted Table ℤ). is_child z.raised q) (some_acted _ d e) ∙ g))
serve_quiet k p (FaultAt s) d q e ne h g = absurd cc

take_quiet : (b : Bool) (k : Table) (p q : ℕ) → q ≢ p → cond ((taken_by b p k).alive q) ((taken_by b p k).pending q) None ≡ cond (k.alive q) (k.pending q) None
take_quiet true k p q ne = (λ i. cond ((cond_off q p false (k.alive q) ne) i) ((cond_off q p None (k.pending q) ne) i) None)
take_quiet false k p q ne = ap (λ (o : Option ℕ). cond (k.alive q) o None) (cond_off q p None (k.pending q) ne)

pub sound_of : (nodes : ℕ) (policy : Sight → Option Choice) → 1 ≤ nodes → ((s : Sight) (c : Choice) → policy s ≡ Some c → IsMovable c.pid s.movable × IsKnown c.to s.known × (c.to ≢ s.node)) → (script : List ScriptLine) (programs : List Program) → ((k : ℕ) (s : ScriptLine) → slice_get script k ≡ Some s → order_at s.line script ≡ Some s.order) → ((line p to : ℕ) → IsMove (small_of nodes policy script programs) line p to → to < nodes) → Sound (small_of nodes policy script programs)
sound_of nodes policy some chosen script programs lines targets = record {
  lines = lines;
  targets = targets;
  some = some;
  count_new = refl;
  count_launch = λ k l e. ap (λ (x : Table). x.count) (sym (launched k l (nat_lt (living k) 64) refl e).0);
  count_raise = λ k p s. raised_count (k.alive p) p s k;
  count_feed = λ k i. refl;
  count_finish = λ k. refl;
  count_serve = serve_count;
  child_serve = serve_child;
  count_take = λ k p b. taken_count (signal_or (k.pending p) == 9) p k;
  count_fall = λ k p r. refl;
  live_launch = λ k l q e ne. ap (λ (x : Table). x.alive q) (sym (launched k l (nat_lt (living k) 64) refl e).0) ∙ cond_off q (k.count + 1) true (k.alive q) ne;
  live_new = λ k l e. ap (λ (x : Table). x.alive (k.count + 1)) (sym (launched k l (nat_lt (living k) 64) refl e).0) ∙ cond_here (k.count + 1) true (k.alive (k.count + 1));
  live_raise = λ k p s q. raised_alive (k.alive p) p s q k;
  live_feed = λ k i q. refl;
  live_finish = λ k q. refl;
  live_serve = serve_alive;
  live_empty = λ q. refl;
  live_child = serve_born;
  live_take = λ k p b q ne. taken_alive (signal_or (k.pending p) == 9) p q k ne;
  live_fall = λ k p r q ne. cond_off q p false (k.alive q) ne;
  dead_fall = λ k p r. cond_here p false (k.alive p);
  ended = λ k p a b e. has_end (k.alive p) (k.ends p) e;
  lowest_live = λ k p s e. lowest_alive (k.alive p) (k.pending p) s e;
  quiet_raise = λ k p s q h. raise_quiet (k.alive p) k p s q h;
  quiet_serve = serve_quiet;
  quiet_take = λ k p b q ne h. take_quiet (signal_or (k.pending p) == 9) k p q ne;
  quiet_fall = λ k p r q ne h. ap (λ (b : Bool). cond b (k.pending q) None) (cond_off q p false (k.alive q) ne);
  room_serve = λ k p u r d e f. refl;
  room_broken = λ k p s u r a b e n c. refl;
  pid_loaded = λ i p e. refl;
  pid_went = λ u x k e. went_pid u x (gone u.todo k) e;
  pid_given = λ u a. refl;
  pid_entered = λ u t. refl;
  pid_forked = λ u c. refl;
  chosen = λ s c e. chosen s c (sym e);
  fits_asks = λ u r e. refl;
  fits_serve = λ k p u r d a n e. refl;
  fits_broken = λ k p s u r a b c n e. refl;
  fits_take = λ k p s u e. refl;
  few_launch = λ k l e. (launched k l (nat_lt (living k) 64) refl e).1;
  few_serve = serve_few;
  pages_given = λ u a. refl;
  pages_entered = λ u t. refl;
}

pub sound : (script : List ScriptLine) (programs : List Program) → ((k : ℕ) (s : ScriptLine) → slice_get script k ≡ Some s → order_at s.line script ≡ Some s.order) → ((line p to : ℕ) → IsMove (small script programs) line p to → to < 2) → Sound (small script programs)
sound script programs lines targets = sound_of 2 no_choice (omega arith) (λ s c e. absurd cc) script programs lines targets
