-- What a line emits is the step of the definition.
use Rattle.std.proofs.Common.{arith}
use Rattle.rv_asm.specs.Assembly.{bytes_from}
use Rattle.rv_asm.specs.Labels.{found_in}
use Rattle.rv_asm.specs.Layout.{start}
use Rattle.rv_asm.proofs.EmitLemmas.{emit_stops, emit_goes_on}
use Rattle.rv_asm.proofs.assembly.emit.Goals as goal

pub returns-in-Some : goal.returns-in-Some
returns-in-Some c =
    let labels = found_in c.args.labels.now in
    emit_stops labels c.loop-line.number c.loop-line.line-index c.loop-line.place c.args.lines.now c.line-item.result c.loop-line.out c.emit_line.new.out (bytes_from labels 1 start c.args.lines.now) c.in_ok-fault.fault c.in-Some.kind (omega arith) c.line-item.is c.loop-line.invariant.all c.in-Some.is c.in_ok-fault.ensures

pub loop-line-preserved : goal.loop-line-preserved
loop-line-preserved c =
    let labels = found_in c.args.labels.now in
    record {
      counted = omega arith;
      all = emit_goes_on labels c.loop-line.number c.loop-line.line-index c.loop-line.place c.args.lines.now c.line-item.result c.loop-line.out c.emit_line.new.out (bytes_from labels 1 start c.args.lines.now) c.in_ok-fault.fault c.after_line-place.result (omega arith) c.line-item.is c.loop-line.invariant.all c.in-None.is c.in_ok-fault.ensures c.after_line-place.ensures;
    }
