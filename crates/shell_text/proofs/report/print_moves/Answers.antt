use Rattle.std.proofs.Common.{Err}
use Rattle.std.specs.List.{flat_map}
use Rattle.shell_text.specs.Report.{outcome_writes, open_writes}
use Rattle.shell_text.proofs.Printed.{written_then, prints_then}
use Rattle.shell_text.proofs.report.print_moves.Goals as goal

pub returns-in-Ok-print_opens : goal.returns-in-Ok-print_opens
returns-in-Ok-print_opens g c =
    written_then g.O.Sink.written g.O.Sink.faults (flat_map (outcome_writes c.args.script.now) c.args.events.now) (flat_map (open_writes c.args.events.now) c.args.script.now) c.args.out.now c.print_outcomes.new.out c.print_opens.new.out c.in-Ok.ensures c.in-Ok-print_opens.ensures

pub returns-in-Err-print_opens : goal.returns-in-Err-print_opens
returns-in-Err-print_opens g c =
    prints_then g.O.Sink.written g.O.Sink.faults (flat_map (outcome_writes c.args.script.now) c.args.events.now) (flat_map (open_writes c.args.events.now) c.args.script.now) c.args.out.now c.print_outcomes.new.out c.print_opens.new.out (Err c.in-Err-print_opens.e) c.in-Ok.ensures c.in-Err-print_opens.ensures
