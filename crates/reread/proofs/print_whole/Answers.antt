-- `reread::print_whole` meets its contract: each turn prints entries and moves the bytes after them. Assumes nothing.
use Rattle.std.proofs.Common.{◌≡◌, sym, subst, ℕ, ◌≤◌, List, length, take, arith, rules, length-take-le}
use Rattle.log_text.specs.Rules.{Took}
use Rattle.log_text.proofs.Laws.{empty_not_whole}
use Rattle.reread.proofs.Rests.{Printing, none_printed, more_printed}
use Rattle.reread.proofs.print_whole.Goals as goal
use Rattle.std.specs.Prelude.{Option}

module _ {h : (Option ℕ)} {bytes₀ : List ℕ} {count : ℕ} {bytes : List ℕ} {left : ℕ} {seen : (Option ℕ)} (p : Printing h bytes₀ count bytes left seen) where
  left_within : left ≤ length bytes
  left_within = omega (arith, p.size, p.within)

  -- the bytes that are left
  held : length (take left bytes) ≡ left
  held = length-take-le left bytes left_within

pub loop-left-init : goal.loop-left-init
loop-left-init c = record { printing = none_printed _ _ _ c.requires; room = search rules }

pub slice_bounds-feed-end : goal.slice_bounds-feed-end
slice_bounds-feed-end c = left_within c.loop-left.invariant.printing

pub slice_bounds-feed-end-in-loop-left : goal.slice_bounds-feed-end-in-loop-left
slice_bounds-feed-end-in-loop-left c = sym (held c.loop-left.invariant.printing)

pub returns-then-fed-eq0 : goal.returns-then-fed-eq0
returns-then-fed-eq0 c =
    let p = c.loop-left.invariant.printing in
    let none = c.feed-fed.ensures.progress c.if-fed-eq0.true (search rules) in
    record { took = p.took; none_whole = none.0; few = omega (arith, none.1, held p) }

pub slice_bounds-print-end : goal.slice_bounds-print-end
slice_bounds-print-end c = sym (length-take-le c.feed-fed.result.written c.feed-fed.new.text c.feed-fed.ensures.inside.1)

pub overflow_sub-left : goal.overflow_sub-left
overflow_sub-left c = omega (arith, c.feed-fed.ensures.inside, held c.loop-left.invariant.printing)

pub move_down-requires : goal.move_down-requires
move_down-requires c =
    let p = c.loop-left.invariant.printing in
    (omega arith, omega (arith, c.feed-fed.ensures.inside, held p, left_within p))

pub loop-left-smaller : goal.loop-left-smaller
loop-left-smaller c = omega (arith, c.feed-fed.ensures.inside, held c.loop-left.invariant.printing, c.if-fed-eq0.false)

pub loop-left-preserved : goal.loop-left-preserved
loop-left-preserved c =
    let f = c.feed-fed in record {
      printing = more_printed c.loop-left.invariant.printing f.result.used f.result.highest (take f.result.written f.new.text) f.ensures.inside.0 f.ensures.lines
          c.move_down.ensures;
      room = search rules;
    }

pub returns : goal.returns
returns c =
    let p = c.loop-left.invariant.printing in
    let e : c.loop-left.left ≡ 0 = omega (arith, c.loop-left-test.false) in
    record {
      took = subst (λ (n : ℕ). Took c.args.highest (take c.args.count c.args.bytes.now) c.loop-left.seen (take n c.loop-left.bytes)) e p.took;
      none_whole = empty_not_whole;
      few = omega arith;
    }
