-- Home and the other nodes, as they are made, begin a run of the plan.
use Rattle.std.proofs.Common.{◌≡◌, ℕ, zero, suc, ◌+◌, ◌-◌, ◌<◌, List, [], ◌∷◌, ◌++◌, length, refl, sym, ap, ◌∙◌, subst, arith, append_assoc, Some}
use Rattle.std.specs.Prelude.{slice_get, slice_index}
use Rattle.std.proofs.lemmas.Option.{slice_get_within}
use Rattle.rand_core.specs.Stream.{Stream}
use Rattle.node_event.specs.declared.script.ScriptLine.{ScriptLine}
use Rattle.mosix_words.specs.declared.settings.Settings.{Settings}
use Rattle.user_spec.specs.User.{UserState}
use Rattle.node_machine.specs.Plan.{IsPlan}
use Rattle.node_core.specs.declared.node.Node.{Node}
use Rattle.node_core.specs.Making.{new_node}
use Rattle.node_core.specs.Suits.{HasShape}
use Rattle.cluster_run.specs.Over.{IsFirst, Begins}
use Rattle.mosix_shell.specs.Ranges.{IsInRange}
use Rattle.mosix_shell.specs.Stage.{seeds_of, plan_of, shape_of, away_nodes, first_nodes}

away_count : (settings : Settings) (seeds : List ℕ) (id n : ℕ) → length (away_nodes settings seeds id n) ≡ n
away_count settings seeds id zero = refl
away_count settings seeds id (suc n) = ap suc (away_count settings seeds (id + 1) n)

away_at : (settings : Settings) (seeds : List ℕ) (id n k : ℕ) (node : Node) → slice_get (away_nodes settings seeds id n) k ≡ Some node → node ≡ new_node (id + k) (shape_of settings (slice_index seeds (id + k))) [] []
away_at settings seeds id zero k node e = absurd cc
away_at settings seeds id (suc n) zero node e =
    let same : new_node id (shape_of settings (slice_index seeds id)) [] [] ≡ node = cc in
    let here : id ≡ id + 0 = omega arith in
    sym same ∙ ap (λ (i : ℕ). new_node i (shape_of settings (slice_index seeds i)) [] []) here
away_at settings seeds id (suc n) (suc k) node e =
    let there : id + 1 + k ≡ id + suc k = omega arith in
    away_at settings seeds (id + 1) n k node e ∙ ap (λ (i : ℕ). new_node i (shape_of settings (slice_index seeds i)) [] []) there

-- one node more
pub away_next : (settings : Settings) (seeds : List ℕ) (id : ℕ) (made more all : List Node) (node : Node) → id < settings.nodes → made ++ away_nodes settings seeds id (settings.nodes - id) ≡ all → more ≡ made ++ node ∷ []
    → node ≡ new_node id (shape_of settings (slice_index seeds id)) [] [] → more ++ away_nodes settings seeds (id + 1) (settings.nodes - (id + 1)) ≡ all
away_next settings seeds id made more all node less is push made_so =
    let left : settings.nodes - id ≡ suc (settings.nodes - (id + 1)) = omega arith in
    ap (λ (xs : List Node). xs ++ away_nodes settings seeds (id + 1) (settings.nodes - (id + 1))) push
    ∙ (append_assoc made (node ∷ []) (away_nodes settings seeds (id + 1) (settings.nodes - (id + 1)))
    ∙ (ap (λ (x : Node). made ++ x ∷ away_nodes settings seeds (id + 1) (settings.nodes - (id + 1))) made_so
    ∙ (ap (λ (n : ℕ). made ++ away_nodes settings seeds id n) (sym left) ∙ is)))

pub begins : (chance : Stream) (settings : Settings) (orders : List ScriptLine) (users : List UserState) (nodes : List Node) → IsInRange settings → IsPlan (plan_of chance settings orders users)
    → nodes ≡ first_nodes settings (seeds_of settings chance) orders users → Begins (plan_of chance settings orders users) settings.journal nodes
begins chance settings orders users nodes range is_plan made = subst (Begins (plan_of chance settings orders users) settings.journal) (sym made) (record { count = count; each = each })
  where
    count : length (first_nodes settings (seeds_of settings chance) orders users) ≡ settings.nodes
    count = omega (arith, range.least_nodes, away_count settings (seeds_of settings chance) 1 (settings.nodes - 1))

    shaped : (word : ℕ) → HasShape (plan_of chance settings orders users) (shape_of settings word)
    shaped word = record { nodes = refl; cap = refl; quantum = refl; most_nodes = range.most_nodes; most_pages = range.most_pages; most_events = range.most_journal }

    away : (k : ℕ) (n : Node) → suc k < settings.nodes → n ≡ new_node (1 + k) (shape_of settings (slice_index (seeds_of settings chance) (1 + k))) [] [] → IsFirst (plan_of chance settings orders users) settings.journal (suc k) n
    away k n less made = record {
      shape = shape_of settings (slice_index (seeds_of settings chance) (suc k));
      script = [];
      users = [];
      made = let there : 1 + k ≡ suc k = omega arith in made ∙ ap (λ (i : ℕ). new_node i (shape_of settings (slice_index (seeds_of settings chance) i)) [] []) there;
      beginning = record { is_plan = is_plan; below = less; shape_is = shaped (slice_index (seeds_of settings chance) (suc k)); script_is = λ z. absurd (omega (arith, z)); users_is = λ z. absurd (omega (arith, z)); words = λ j. refl };
      room_is = refl;
    }

    each : (k : ℕ) (n : Node) → slice_get (first_nodes settings (seeds_of settings chance) orders users) k ≡ Some n → IsFirst (plan_of chance settings orders users) settings.journal k n
    each zero n e = record {
      shape = shape_of settings (slice_index (seeds_of settings chance) 0);
      script = orders;
      users = users;
      made = let same : new_node 0 (shape_of settings (slice_index (seeds_of settings chance) 0)) orders users ≡ n = cc in sym same;
      beginning = record { is_plan = is_plan; below = omega (arith, range.least_nodes); shape_is = shaped (slice_index (seeds_of settings chance) 0); script_is = λ z. refl; users_is = λ z. refl; words = λ j. refl };
      room_is = refl;
    }
    each (suc k) n e =
        let within = slice_get_within (away_nodes settings (seeds_of settings chance) 1 (settings.nodes - 1)) k n e in
        let less : suc k < settings.nodes = omega (arith, within, away_count settings (seeds_of settings chance) 1 (settings.nodes - 1)) in
        away k n less (away_at settings (seeds_of settings chance) 1 (settings.nodes - 1) k n e)
