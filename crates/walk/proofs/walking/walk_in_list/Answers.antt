use Rattle.std.proofs.Common.{◌∙◌, rules}
use Rattle.first_come.specs.Contents.{contents}
use Rattle.walk.proofs.WholeWalks.{leaves_full, leaves_at_goal, leaves_rooted, leaves_found, leaves_end}
use Rattle.walk.proofs.walking.walk_in_list.Goals as goal

pub returns-in-Full : goal.returns-in-Full
returns-in-Full g c =
    let leaves = leaves_full (g.D.Detector.carried c.args.detector.now) (g.D.Detector.dead c.args.detector.now) (contents c.args.list.now) c.requires c.args.start.now c.args.plan.now (contents c.list.new.self) (search rules) (search rules) in
    record { answer = leaves.answer; listed = leaves.listed; plan = leaves.plan; lender = c.list.ensures.lender }

pub returns-then-meets_goal : goal.returns-then-meets_goal
returns-then-meets_goal g c =
    let leaves = leaves_at_goal (g.D.Detector.carried c.args.detector.now) (g.D.Detector.dead c.args.detector.now) (contents c.args.list.now) c.requires c.args.start.now c.args.plan.now c.list.result (search rules) c.in_default.not-Full (contents c.list.new.self) (search rules) (search rules) in
    record { answer = leaves.answer; listed = leaves.listed; plan = leaves.plan; lender = c.list.ensures.lender }

pub tell-requires : goal.tell-requires
tell-requires g c =
    let d = g.D.Detector.carried c.args.detector.now in
    let dead = g.D.Detector.dead c.args.detector.now in
    let k = contents c.args.list.now in
    let after = contents c.take_states-course.new.list in
    record {
      rooted = leaves_rooted d dead k c.requires c.args.start.now c.args.plan.now c.list.result (search rules) c.in_default.not-Full (contents c.list.new.self) (search rules) (search rules) after c.take_states-course.result c.take_states-course.ensures.made c.as_slice.result.now c.as_slice.ensures;
      within = leaves_found d dead k c.requires c.args.start.now c.args.plan.now c.list.result (search rules) c.in_default.not-Full (contents c.list.new.self) (search rules) (search rules) after c.take_states-course.result c.take_states-course.ensures.made c.as_slice.result.now c.as_slice.ensures;
    }

pub returns : goal.returns
returns g c =
    let d = g.D.Detector.carried c.args.detector.now in
    let dead = g.D.Detector.dead c.args.detector.now in
    let k = contents c.args.list.now in
    let after = contents c.take_states-course.new.list in
    let leaves = leaves_end d dead k c.requires c.args.start.now c.args.plan.now c.list.result (search rules) c.in_default.not-Full (contents c.list.new.self) (search rules) (search rules) after c.take_states-course.result c.take_states-course.ensures.made c.as_slice.result.now c.as_slice.ensures c.tell.result c.tell.new.plan c.tell.ensures.answer c.tell.ensures.plan in
    record { answer = leaves.answer; listed = leaves.listed; plan = leaves.plan; lender = c.take_states-course.ensures.lender ∙ c.list.ensures.lender }
