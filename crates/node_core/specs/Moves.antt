-- What a node makes of the letters of a move, in the words of its parts.
use Rattle.std.specs.Prelude.{◌≡◌, ◌+◌, ◌-◌, ◌^◌, ℕ, min, is_some, is_none, nat_lt, ◌&&◌, ◌==◌, not, cond, Bool, true, false, Option, Some, None, List, [], ◌∷◌, length}
use Rattle.std.specs.Bool.{MatchBool}
use Rattle.std.specs.Option.{option_map}
use Rattle.std.specs.FinMap as fin_map
use Rattle.call_table.specs.declared.limit.TheConstants.{PROCESSES}
use Rattle.call_forward.specs.declared.acted.Acted.{Acted}
use Rattle.call_forward.specs.declared.message.Message.{Message}
use Rattle.call_forward.specs.declared.message.Message.TheVariants as message
use Rattle.call_forward.specs.declared.state.State.{State}
use Rattle.call_forward.specs.declared.state.State.TheVariants as state
use Rattle.node_event.specs.declared.event.What.TheVariants as what
use Rattle.user_spec.specs.User.{UserState}
use Rattle.kernel_spec.specs.Kernel.{given}
use Rattle.migrate_proto.specs.declared.reserve.Decision.{Decision}
use Rattle.migrate_proto.specs.declared.reserve.Decision.TheVariants as decided
use Rattle.migrate_proto.specs.Reservations.{decision}
use Rattle.remote_ctx.specs.declared.context.Stance.TheVariants.{Running}
use Rattle.remote_ctx.specs.Hosted.{lookup, state_of, pages_of, pages_here, IsPast, sum_to, counts, Puts, Changes}
use Rattle.remote_ctx.specs.Acting.{fresh, standing_as, Leaves}
use Rattle.deputy.specs.Moves.{landed_in}
use Rattle.node_core.specs.declared.node.Node.{Node}
use Rattle.node_core.specs.Sight.{free_of}
use Rattle.node_core.specs.Parts.{OnHome, IsStrange, Says, is_stray}

-- ---- a process asks for room

-- it is not here, nothing is kept for it, home knows of it, and fewer are to come than there may be processes
abbrev pub may_come : Node → ℕ → Bool
may_come n pid = is_none (lookup pid n.hosted) && (not (is_some (fin_map.get n.reserve pid)) && (not (is_stray n (Some pid)) && nat_lt (fin_map.len n.reserve) PROCESSES))

abbrev pub allowed : ℕ → ℕ → ℕ → Acted
allowed pid from need = record { what = what.Allow pid from need; mail = (from, message.Allow pid) ∷ [] }

abbrev pub denied : ℕ → ℕ → ℕ → ℕ → Acted
denied pid from need free = record { what = what.Deny pid from need free; mail = (from, message.Deny pid need free) ∷ [] }

-- its pages are kept for it
pub record Reserves (pid from need : ℕ) (acted : Acted) (old mid : Node) : Type 0 where
  pub acted_is : acted ≡ allowed pid from need
  pub rest : mid ≡ record old { reserve = fin_map.insert old.reserve pid need }

abbrev pub AnswersAsk : Decision → ℕ → ℕ → ℕ → Acted → Node → Node → Type 0
AnswersAsk decided.Allow pid from need acted old mid = Reserves pid from need acted old mid
AnswersAsk (decided.Deny wanted free) pid from need acted old mid = Says (denied pid from wanted free) acted old mid

-- it may come exactly where so many pages are free
pub record Decides (pid from need : ℕ) (acted : Acted) (old mid : Node) : Type 0 where
  pub pages : (n : ℕ) → IsPast n old.hosted → pages_here old.hosted ≡ sum_to n (λ q. counts pages_of (lookup q old.hosted))
  pub does : AnswersAsk (decision need (free_of old)) pid from need acted old mid

abbrev pub HearsAsk : ℕ → ℕ → ℕ → Acted → Node → Node → Type 0
HearsAsk from pid need acted old mid = MatchBool (may_come old pid) (Decides pid from need acted old mid) (IsStrange acted old mid)

-- ---- the answer

-- the line for which a process asks this node for room, if it does
abbrev pub asked_line : ℕ → Option State → Option (Option ℕ)
asked_line node None = None
asked_line node (Some state.Running) = None
asked_line node (Some state.Waiting) = None
asked_line node (Some (state.Asking to line)) = cond (to == node) (Some line) None

abbrev pub asked_of : Node → ℕ → ℕ → Option (Option ℕ)
asked_of n node pid = asked_line node (option_map state_of (lookup pid n.hosted))

-- it leaves, with its landings
pub record Departs (pid to : ℕ) (line : Option ℕ) (acted : Acted) (old mid : Node) : Type 0 where
  pub user : UserState
  pub hops : ℕ
  pub leaves : Leaves user hops pid old.hosted mid.hosted
  pub acted_is : acted ≡ record { what = what.Depart pid to; mail = (to, message.Move pid user hops line) ∷ [] }
  pub rest : mid ≡ record old { hosted = mid.hosted }

abbrev pub AllowedFor : Option (Option ℕ) → ℕ → ℕ → Acted → Node → Node → Type 0
AllowedFor None from pid acted old mid = IsStrange acted old mid
AllowedFor (Some line) from pid acted old mid = Departs pid from line acted old mid

abbrev pub HearsAllow : ℕ → ℕ → Acted → Node → Node → Type 0
HearsAllow from pid acted old mid = AllowedFor (asked_of old from pid) from pid acted old mid

-- the line of a move that is over is closed
abbrev pub closing : Option ℕ → List (ℕ × Message)
closing None = []
closing (Some line) = (0, message.NoMove line) ∷ []

-- it stays, and runs on
pub record Remains (pid to need free : ℕ) (line : Option ℕ) (acted : Acted) (old mid : Node) : Type 0 where
  pub changes : Changes pid (standing_as Running) old.hosted mid.hosted
  pub acted_is : acted ≡ record { what = what.Stay pid to need free; mail = closing line }
  pub rest : mid ≡ record old { hosted = mid.hosted }

abbrev pub DeniedFor : Option (Option ℕ) → ℕ → ℕ → ℕ → ℕ → Acted → Node → Node → Type 0
DeniedFor None from pid need free acted old mid = IsStrange acted old mid
DeniedFor (Some line) from pid need free acted old mid = Remains pid from need free line acted old mid

abbrev pub HearsDeny : ℕ → ℕ → ℕ → ℕ → Acted → Node → Node → Type 0
HearsDeny from pid need free acted old mid = DeniedFor (asked_of old from pid) from pid need free acted old mid

-- ---- a process comes

-- it is the one that is named, it is not here, and pages are kept for it
abbrev pub may_land : Node → ℕ → UserState → Bool
may_land n pid user = is_none (lookup pid n.hosted) && ((user.pid == pid) && is_some (fin_map.get n.reserve pid))

-- one landing more; the count stays at its end
abbrev pub landings : ℕ → ℕ
landings hops = min (hops + 1) (2 ^ 32 - 1)

-- it runs here, nothing is kept for it any more, and home is told
pub record LandsHere (pid source : ℕ) (user : UserState) (hops : ℕ) (line : Option ℕ) (acted : Acted) (old mid : Node) : Type 0 where
  pub puts : Puts user.pid (Some (fresh user hops)) old.hosted mid.hosted
  pub freed : mid.reserve ≡ fin_map.remove old.reserve pid
  pub acted_is : acted ≡ record { what = what.Land pid source; mail = (0, message.Landed pid source hops line) ∷ [] }
  pub rest : mid ≡ record old { hosted = mid.hosted; reserve = mid.reserve }

abbrev pub HearsMove : ℕ → ℕ → UserState → ℕ → Option ℕ → Acted → Node → Node → Type 0
HearsMove from pid user hops line acted old mid = MatchBool (may_land old pid user) (LandsHere pid from user (landings hops) line acted old mid) (IsStrange acted old mid)

-- ---- home is told of a landing

pub record HearsLanded (from pid source hops : ℕ) (line : Option ℕ) (acted : Acted) (old mid : Node) : Type 0 where
  pub each : length old.deputies.rows ≡ given old.deputies.kernel
  pub home : OnHome (landed_in old.deputies from pid source hops line) acted old mid
