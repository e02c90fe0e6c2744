use Rattle.std.proofs.Common.{◌≡◌, ℕ, subst, arith}
use Rattle.cluster_run.specs.Standing.{Met, Counted}
use Rattle.cluster_run.proofs.Calming.{met_turned, counted_turned}
use Rattle.cluster_run.proofs.seats.meet_any.Goals as goal

pub returns-in_ok-none-2 : goal.returns-in_ok-none-2
returns-in_ok-none-2 g c = record {
  met = met_turned g.C.Carrier.puts g.C.Carrier.gives g.C.Carrier.pair c.in_ok-none-2.none c.args.b c.args.a c.args.seats.now c.meet_two-then-b-a.new.seats c.in_ok-none-2.ensures.met;
  counted = counted_turned g.C.Carrier.puts g.C.Carrier.gives g.C.Carrier.known c.args.b c.args.a c.args.seats.now c.meet_two-then-b-a.new.seats c.in_ok-none-2.ensures.counted;
}

pub returns-in_ok-none-3 : goal.returns-in_ok-none-3
returns-in_ok-none-3 g c =
    let same : c.args.a ≡ c.args.b = omega (arith, c.if-a-b.false, c.if-b-a.false) in
    record {
      met = subst (λ (k : ℕ). Met g.C.Carrier.puts g.C.Carrier.gives g.C.Carrier.pair c.in_ok-none-3.none c.args.a k c.args.seats.now c.meet_one.new.seats) same c.in_ok-none-3.ensures.met;
      counted = subst (λ (k : ℕ). Counted g.C.Carrier.puts g.C.Carrier.gives g.C.Carrier.known c.args.a k c.args.seats.now c.meet_one.new.seats) same c.in_ok-none-3.ensures.counted;
    }
