-- What comes of an item and of the rest comes of all.
use Rattle.std.proofs.Common.{get_or, ℕ}
use Rattle.std.specs.List.{flat_map}
use Rattle.std.proofs.lemmas.List.{get_or_default}
use Rattle.call_table.specs.declared.process.PidState.{PidState}
use Rattle.call_table.specs.declared.process.PidState.TheVariants.{Exit}
use Rattle.shell_text.specs.Report.{status_writes, status_line}
use Rattle.shell_text.proofs.Printed.{loop_more, loop_stops}
use Rattle.shell_text.proofs.report.print_statuses.Goals as goal

abbrev blank : ℕ × PidState
blank = (0, Exit 0)

pub returns-in-Err : goal.returns-in-Err
returns-in-Err g c =
    let x = get_or c.args.statuses.now c.loop-status.status-index blank in
    loop_stops g.O.Sink.written g.O.Sink.faults status_writes c.args.statuses.now (flat_map status_writes c.args.statuses.now) c.args.out.now c.loop-status.status-index x c.loop-status.out c.write_made.new.out c.in-Err.e
    c.loop-status-test.true (get_or_default c.args.statuses.now c.loop-status.status-index blank x c.loop-status-test.true) c.loop-status.invariant (c.in-Err.ensures (status_line x) c.status_line.ensures)

pub loop-status-preserved : goal.loop-status-preserved
loop-status-preserved g c =
    let x = get_or c.args.statuses.now c.loop-status.status-index blank in
    loop_more g.O.Sink.written g.O.Sink.faults status_writes c.args.statuses.now (flat_map status_writes c.args.statuses.now) c.args.out.now c.loop-status.status-index x c.loop-status.out c.write_made.new.out
    c.loop-status-test.true (get_or_default c.args.statuses.now c.loop-status.status-index blank x c.loop-status-test.true) c.loop-status.invariant (c.in-Ok.ensures (status_line x) c.status_line.ensures)
