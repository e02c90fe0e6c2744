-- What a run left is told one item after the other.
use Rattle.std.proofs.Common.{◌≡◌, ℕ, zero, suc, ◌+◌, ◌-◌, ◌<◌, ◌==◌, Bool, true, false, cond, List, [], ◌∷◌, ◌++◌, length, take, get_or, filter_map, refl, sym, ap, ◌∙◌, subst, arith, append_assoc, append-nil, Option, Some, None}
use Rattle.std.specs.Prelude.{slice_get}
use Rattle.std.specs.List.{cons_option}
use Rattle.std.proofs.lemmas.List.{take_more}
use Rattle.std.proofs.lemmas.List.Elements.{filter_map-append}
use Rattle.call_table.specs.declared.process.Reply3.{Reply3}
use Rattle.node_event.specs.declared.event.Event.{Event}
use Rattle.rand_core.specs.Stream.{Stream, next_u64}
use Rattle.deputy.specs.Rows.{HomeState}
use Rattle.node_core.specs.declared.node.Node.{Node}
use Rattle.fs_memory.specs.Files.{named_files}
use Rattle.node_event.specs.Journals.{JournalState}
use Rattle.weave.specs.Weaves.{AreJournals, IsRising, own_events, events_at}
use Rattle.shell_text.specs.declared.run.Last.{Last}
use Rattle.mosix_shell.specs.declared.left.Shown.{Shown}
use Rattle.mosix_shell.specs.Left.{states_at, reply_of, and_reply, replies_in, journals_of, HasHome, IsHomeOf, HomeTells, TellsEnd}
use Rattle.mosix_shell.specs.Stage.{words_from}

-- ---- home

home_if : (b : Bool) (x : Node) (d : HomeState) → cond b (Some x.deputies) None ≡ Some d → x.deputies ≡ d
home_if true x d e = cc
home_if false x d e = absurd cc

pub home_is : (nodes : List Node) (x : Node) (d : HomeState) (o : Option HomeState) → HasHome nodes → x ≡ get_or nodes 0 x → o ≡ cond (x.id == 0) (Some x.deputies) None → o ≡ Some d → IsHomeOf nodes d
home_is nodes x d o h at is some = record { node = h.home; first = h.first; is = ap (λ (n : Node). n.deputies) (same nodes h.first at) ∙ home_if (x.id == 0) x d (sym is ∙ some) }
  where
    same : (xs : List Node) → slice_get xs 0 ≡ Some h.home → x ≡ get_or xs 0 x → h.home ≡ x
    same [] e f = absurd cc
    same (y ∷ ys) e f = let first : y ≡ h.home = cc in sym first ∙ sym f

-- ---- words of chance

pub words_next : (count i word : ℕ) (made more all : List ℕ) (s rest : Stream) → i < count → made ++ words_from (count - i) s ≡ all → more ≡ made ++ word ∷ [] → (word, rest) ≡ next_u64 s → more ++ words_from (count - (i + 1)) rest ≡ all
words_next count i word made more all s rest less is push drawn =
    let left : count - i ≡ suc (count - (i + 1)) = omega arith in
    ap (λ (xs : List ℕ). xs ++ words_from (count - (i + 1)) rest) push
    ∙ (append_assoc made (word ∷ []) (words_from (count - (i + 1)) rest)
    ∙ (ap (λ (p : ℕ × Stream). made ++ p.0 ∷ words_from (count - (i + 1)) p.1) drawn
    ∙ (ap (λ (n : ℕ). made ++ words_from n s) (sym left) ∙ is)))

pub words_count : (n : ℕ) (s : Stream) → length (words_from n s) ≡ n
words_count zero s = refl
words_count (suc n) s = ap suc (words_count n (next_u64 s).1)

-- ---- replies

and_same : (rs : List Reply3) (o : Option Reply3) → and_reply rs o ≡ rs ++ cons_option o []
and_same rs None = sym (append-nil rs)
and_same rs (Some r) = refl

pub reply_next : (events : List Event) (i : ℕ) (d : Event) (made more : List Reply3) → i < length events → made ≡ replies_in (take i events) → more ≡ and_reply made (reply_of (get_or events i d)) → more ≡ replies_in (take (i + 1) events)
reply_next events i d made more less is push =
    push ∙ (and_same made (reply_of (get_or events i d))
    ∙ (ap (λ (rs : List Reply3). rs ++ cons_option (reply_of (get_or events i d)) []) is
    ∙ sym (ap (filter_map reply_of) (take_more events i d less) ∙ filter_map-append reply_of (take i events) (get_or events i d ∷ []))))

-- ---- the run

pub told_is : (nodes xs : List Node) (l : Last) (d : HomeState) (shown : Shown) (events ys : List Event) (replies : List Reply3) (journals : List JournalState) → xs ≡ nodes → ys ≡ events → IsHomeOf xs d → HomeTells shown l d → journals ≡ journals_of nodes
    → (AreJournals 0 journals → IsRising events) → (AreJournals 0 journals → (n : ℕ) → own_events n events ≡ events_at n journals) → replies ≡ replies_in ys
    → TellsEnd nodes l (record { events = events; statuses = shown.statuses; terminal = shown.terminal; files = shown.files; replies = replies; last = l })
told_is nodes xs l d shown events ys replies journals same listed home tells all rising own told = record {
  home = home.node;
  first = ap (λ (zs : List Node). slice_get zs 0) (sym same) ∙ home.first;
  last_is = refl;
  statuses_are = tells.statuses_are ∙ ap (states_at l) (sym home.is);
  terminal_is = tells.terminal_is ∙ ap (λ (x : HomeState). x.kernel.terminal) (sym home.is);
  files_are = tells.files_are ∙ ap (λ (x : HomeState). named_files x.kernel.io.files) (sym home.is);
  replies_are = told ∙ ap replies_in listed;
  rising = subst (λ (js : List JournalState). AreJournals 0 js → IsRising events) all rising;
  own = subst (λ (js : List JournalState). AreJournals 0 js → (n : ℕ) → own_events n events ≡ events_at n js) all own;
}
