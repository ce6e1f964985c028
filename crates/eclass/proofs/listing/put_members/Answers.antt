use mathlib.Core.Path.{◌∙◌, refl}
use native.Mathlib.Omega.{arith}
use Rattle.eclass.specs.ClassWalk.{walk_low}
use Rattle.eclass.specs.Lists.{ahead_more, ahead_room, ahead_start, place_more, place_start}
use Rattle.eclass.proofs.listing.put_members.Goals as goal

pub loop-id-init : goal.loop-id-init
loop-id-init c = let e = c.into_iter-id-iterator.ensures.into_iter_gives ∙ c.of_class-id-items.ensures.all in (omega arith, refl, ahead_start _ _ _ _ _ c.args.out.now _ _ _ _ e c.requires.class_long_in refl, place_start _ _ _ _ _ _ c.args.place _ _ e)

pub put_before-start-requires-clause-id_lt_n : goal.put_before-start-requires-clause-id_lt_n
put_before-start-requires-clause-id_lt_n c = omega (arith, c.args.classes.now.g.ok.ids_in, walk_low _ _ _ _ _ _ c.in-Some.ensures.steps _ _ _ _ (c.args.classes.now.unbroken.fine c.args.r.0 c.requires.r_lt_ids) c.loop-id.invariant.3)

pub put_before-start-requires-clause-id_len_bound : goal.put_before-start-requires-clause-id_len_bound
put_before-start-requires-clause-id_len_bound c = (ahead_room c.args.classes.now.g.ws.now _ _ _ 0 c.args.out.now _ 0 _ _ _ _ c.in-Some.ensures.steps c.loop-id.invariant.2, omega (arith, c.loop-id.invariant.0, c.loop-id.invariant.1, c.requires.w_in_bounds))

pub loop-id-preserved : goal.loop-id-preserved
loop-id-preserved c = (omega (arith, c.loop-id.invariant.0, c.put_before-start.ensures.start), c.put_before-start.ensures.size ∙ c.loop-id.invariant.1, ahead_more c.args.classes.now.g.ws.now _ _ _ 0 c.args.out.now _ 0 _ _ _ _ c.in-Some.ensures.steps c.loop-id.invariant.2 _ _ _ c.put_before-start.ensures, place_more _ _ _ _ _ _ _ _ _ _ _ _ c.in-Some.ensures.steps c.loop-id.invariant.2 _ _ _ c.put_before-start.ensures c.requires.w_in_bounds c.loop-id.invariant.3)
