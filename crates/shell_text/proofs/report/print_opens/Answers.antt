use Rattle.std.specs.List.{flat_map}
use Rattle.shell_text.specs.Opens.{open_line}
use Rattle.shell_text.specs.Report.{open_writes}
use Rattle.shell_text.proofs.Printed.{loop_more, loop_stops}
use Rattle.shell_text.proofs.report.print_opens.Goals as goal

pub returns-in-Err : goal.returns-in-Err
returns-in-Err g c =
    loop_stops g.O.Sink.written g.O.Sink.faults (open_writes c.args.events.now) c.args.script.now (flat_map (open_writes c.args.events.now) c.args.script.now) c.args.out.now c.loop-ordered.ordered-index c.ordered-item.result c.loop-ordered.out c.write_some.new.out c.in-Err.e
    c.loop-ordered-test.true c.ordered-item.is c.loop-ordered.invariant (c.in-Err.ensures (open_line c.args.events.now c.ordered-item.result) c.open_line.ensures)

pub loop-ordered-preserved : goal.loop-ordered-preserved
loop-ordered-preserved g c =
    loop_more g.O.Sink.written g.O.Sink.faults (open_writes c.args.events.now) c.args.script.now (flat_map (open_writes c.args.events.now) c.args.script.now) c.args.out.now c.loop-ordered.ordered-index c.ordered-item.result c.loop-ordered.out c.write_some.new.out
    c.loop-ordered-test.true c.ordered-item.is c.loop-ordered.invariant (c.in-Ok.ensures (open_line c.args.events.now c.ordered-item.result) c.open_line.ensures)
