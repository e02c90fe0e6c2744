-- Home is told of each landing as it was, in every run.
use Rattle.std.proofs.Common.{◌≡◌, ℕ, Option, Some, None, List, ap, [], ◌∷◌}
use Rattle.protocol.specs.Ops.{Ops, Sound}
use Rattle.protocol.specs.Deeds.{Deed, Run, Kill, Bid, Unsent, Other, Steps, Sent, Heed, Held, Served, Got, Poked, Begin, Keep, Missed, Again, Allows, Denies, Depart, Stay, Land, Told, Refused, Closed, Gossips, Strange}
use Rattle.protocol.specs.Notes.{Note, Landed, Turn, Way, way}
use Rattle.protocol.specs.Spots.{Spot}
use Rattle.protocol.specs.Does.{Does}
use Rattle.protocol.specs.Cluster.{World, events}
use Rattle.protocol.proofs.Stand.{Step, Path}
use Rattle.run_laws.specs.LandingLaw.{LandingAt, LandingLaw}
use Rattle.run_laws.proofs.Family.{was_under}
use Rattle.run_laws.proofs.Reports.{Report, NotYet, OnWay, Heard, report_way, landed_of, both_here, Reports, path_reports}

module _ (O : Ops) (S : Sound O) where
  report_of : Option (Way O) → Report
  report_of None = NotYet
  report_of (Some w) = by w.note
    where
      by : Note O → Report
      by (Landed p source i line) = OnWay w.from source line
      by _ = NotYet

  -- a landing whose letter is under way tells what the letter says
  way_tells_report : (p i : ℕ) (r : Report) (at n source : ℕ) (line : Option ℕ) → report_way O S p i r ≡ Some (way O at n (Landed p source i line)) → r ≡ OnWay at source line
  unfolding report_of
  way_tells_report p i NotYet at n source line e = absurd cc
  way_tells_report p i (OnWay a s l) at n source line e = ap report_of e
  way_tells_report p i Heard at n source line e = absurd cc

  module _ (h : List (Turn O)) (w : World O) (t : Turn O) (v : World O) (sp next : ℕ → Spot O) (st : Step O S sp w t next v) (rs : Reports O S h sp w) where
    landing_law : (what : Deed) → Does O what t.event.node (w.nodes t.event.node) t (v.nodes t.event.node) → LandingAt what (events O h)
    landing_law (Run line i p) d = tt
    landing_law (Kill line p g poked) d = tt
    landing_law (Bid line p to) d = tt
    landing_law (Unsent line p never) d = tt
    landing_law (Other line input) d = tt
    landing_law (Steps p k) d = tt
    landing_law (Sent p k) d = tt
    landing_law (Heed p) d = tt
    landing_law (Held p k) d = tt
    landing_law (Served p manner number value child signal ends more poked) d = tt
    landing_law (Got p child ended kept) d = tt
    landing_law (Poked p used) d = tt
    landing_law (Begin p to reason) d = tt
    landing_law (Keep p to line) d = tt
    landing_law (Missed p to line) d = tt
    landing_law (Again p to place line) d = tt
    landing_law (Allows p from need) d = tt
    landing_law (Denies p from need free) d = tt
    landing_law (Depart p to) d = tt
    landing_law (Stay p to need free) d = tt
    landing_law (Land p source) d = tt
    landing_law (Told p at source hops line poked) d =
        let was = (was_under O (landed_of O S p hops) w t v st.goes (report_way O S p hops (rs.report p hops)) _ (rs.under p hops) d.base.took (both_here O S p hops)).0 in
        rs.landed p hops at source line (way_tells_report p hops (rs.report p hops) at t.event.node source line was)
    landing_law (Refused p to why line) d = tt
    landing_law (Closed line) d = tt
    landing_law (Gossips heard other) d = tt
    landing_law (Strange p) d = tt

  pub path_landings : (h : List (Turn O)) (sp : ℕ → Spot O) (w : World O) → Path O S h sp w → LandingLaw (events O h)
  path_landings [] sp w r = tt
  path_landings (t ∷ h) sp v r = (landing_law h r.0 t v r.1 sp r.4 (path_reports O S h r.1 r.0 r.2) t.event.what r.4.goes.makes.does, path_landings h r.1 r.0 r.2)
