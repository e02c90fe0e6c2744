-- The one-node machine as the laws take it. Its operations are the definitions of the kernel and of the user state. No process has the pid 0.
use Rattle.std.specs.Prelude.{ℕ, ◌==◌, ◌||◌, Bool, true, cond, is_some, Option, Some, None, List, length, slice_index}
use Rattle.std.specs.Option.{option_map}
use Rattle.call_table.specs.Calls.{is_signal_number}
use Rattle.call_table.specs.declared.error.TheConstants.{EINTR}
use Rattle.call_table.specs.declared.request.Request.{Request}
use Rattle.call_table.specs.declared.request.Answer.{Answer}
use Rattle.call_table.specs.declared.request.Taken.{Taken}
use Rattle.call_table.specs.declared.request.Taken.TheVariants as taken
use Rattle.call_table.specs.declared.process.End.TheVariants as ends
use Rattle.user_spec.specs.User.{UserState, need_of_user}
use Rattle.user_spec.specs.Request.{returned, forked}
use Rattle.user_spec.specs.Advance.{advanced, grows, request_of}
use Rattle.user_spec.specs.Fits.{child_of, entered_by, fits_request, fits_answer, fits_taken, has_room_at}
use Rattle.kernel_spec.specs.Processes.{heeding}
use Rattle.kernel_spec.specs.Kernel.{KernelState, Called, AfterTake, no_process, given, is_live, end_at, has_room, with_process, with_raised, with_end, raised_by_end, deliverable, take_result, value_answer, fed}
use Rattle.kernel_spec.specs.Calls.{call_result}
use Rattle.protocol.specs.Gossip.{Sight, Choice}
use Rattle.protocol.specs.Ops.{Ops, Acted, Took, Fallen}
use Rattle.node_machine.specs.Plan.{Plan, texts, text_at, user_at}

-- what a policy may answer on a sight
abbrev pub Policy : Type 1
Policy = Sight → Option Choice → Type 0

-- ---- calls

abbrev pub acted : Called → Acted KernelState Answer
acted c = record { kernel = c.kernel; answer = c.answer; child = child_of c.answer; raised = c.raised }

-- None exactly where the call blocks, at the pid 0, and for a fault, which is no call
abbrev pub serve_at : KernelState → ℕ → Request → Option (Acted KernelState Answer)
serve_at k p r = cond ((p == 0) || (r.number == 0)) None (option_map acted (call_result k p r))

-- ---- signals and faults

-- a signal is raised at a process that heeds it: it is live and does not ignore it
abbrev pub is_hit : KernelState → ℕ → ℕ → Bool
is_hit k p signal = is_some (heeding k.processes p signal)

-- where there is none to take, nothing is done
abbrev pub took_as : KernelState → Option AfterTake → Took KernelState Taken
took_as k None = record { kernel = k; taken = taken.Dies 0; raised = None }
took_as k (Some after) = record { kernel = after.kernel; taken = after.taken; raised = after.raised }

abbrev pub taken_at : KernelState → ℕ → Bool → Took KernelState Taken
taken_at k p room = took_as k (take_result k p room)

-- a process ends by the signal of its fault
abbrev pub fallen : KernelState → ℕ → ℕ → Fallen KernelState
fallen k p signal = record { kernel = with_end k p (ends.Signal signal); raised = raised_by_end k p }

-- ---- launches and input

abbrev pub launched : KernelState → Option KernelState
launched k = cond (has_room k) (Some (with_process k)) None

abbrev pub fed_with : List ℕ → KernelState → KernelState
fed_with text k = record k { input = fed text k.input }

abbrev pub finished : KernelState → KernelState
finished k = record k { input = record k.input { ended = true } }

-- ---- the machine of a plan, under a policy

abbrev pub machine : Policy → Plan → Ops
machine policy plan = record {
  User = UserState;
  Kernel = KernelState;
  Request = Request;
  Answer = Answer;
  Taken = Taken;
  script = plan.script;
  images = length plan.users;
  texts = length (texts plan.script);
  loaded = user_at plan.users;
  nodes = plan.nodes;
  cap = plan.cap;
  quantum = plan.quantum;
  went = λ u k. advanced k u;
  grows = grows;
  asks = request_of;
  number = λ r. r.number;
  room_of = λ r. r.room;
  room = has_room_at;
  given = returned;
  entered = entered_by;
  forked = forked;
  pages = need_of_user;
  pid_of = λ u. u.pid;
  fits_request = fits_request;
  fits_answer = fits_answer;
  fits_taken = fits_taken;
  Chooses = policy;
  word = plan.word;
  new_kernel = no_process;
  count = given;
  live = is_live;
  end_of = end_at;
  launch = launched;
  is_signal = is_signal_number;
  raise = with_raised;
  hit = is_hit;
  feed = λ k i. fed_with (text_at (texts plan.script) i) k;
  finish = finished;
  serve = serve_at;
  value = λ a. a.value;
  broken = value_answer EINTR;
  lowest = deliverable;
  take = taken_at;
  fall = λ k p r. fallen k p (slice_index r.args 0);
}
