-- `lookup::in_file::find_down` meets its contract, by where the search through the directory stands.
use Rattle.std.proofs.Common.{arith, sym, ◌∙◌}
use Rattle.std.specs.Prelude.{ℕ, ◌-◌, ◌≡◌}
use Rattle.answers.proofs.HandedOn.{handed_on}
use Rattle.opening.proofs.Indexed.{directory_entry, stands_manifest}
use Rattle.lookup.proofs.in_segment.LocatedLaws.{search_first, search_last, search_retired, search_other, search_on, search_stop, was_some, was_none}
use Rattle.lookup.proofs.in_file.find_down.Goals as goal

pub loop-i-init : goal.loop-i-init
loop-i-init c = let d = c.args.directory.now in (search_first _ _ _ _ (stands_manifest _ _ _ d.within d.opens), omega arith)

pub loop-i-preserved-then-directory-p-ne-KIND : goal.loop-i-preserved-then-directory-p-ne-KIND
loop-i-preserved-then-directory-p-ne-KIND c =
    let d = c.args.directory.now in
    let a = directory_entry _ _ _ _ d.bytes d.indexed d.room d.within d.opens (c.loop-i.i - 1) (omega arith) in
    (search_other _ _ _ _ (stands_manifest _ _ _ d.within d.opens) _ _ _ c.loop-i.invariant.0 (omega arith) a _ c.place-p.ensures.place c.if-directory-p-ne-KIND.true, c.loop-i.invariant.1)

pub loop-i-preserved-then-state-ne0 : goal.loop-i-preserved-then-state-ne0
loop-i-preserved-then-state-ne0 c =
    let d = c.args.directory.now in
    let a = directory_entry _ _ _ _ d.bytes d.indexed d.room d.within d.opens (c.loop-i.i - 1) (omega arith) in
    (search_retired _ _ _ _ (stands_manifest _ _ _ d.within d.opens) _ _ _ c.loop-i.invariant.0 (omega arith) a _ c.place-p.ensures.place (λ z. c.if-state-ne0.true (c.state.ensures ∙ z)), c.loop-i.invariant.1)

pub returns-in_err-found : goal.returns-in_err-found
returns-in_err-found c =
    let d = c.args.directory.now in
    let a = directory_entry _ _ _ _ d.bytes d.indexed d.room d.within d.opens (c.loop-i.i - 1) (omega arith) in
    handed_on _ _ c.from_residual.ensures.1
    ∙ search_stop _ _ _ _ (stands_manifest _ _ _ d.within d.opens) _ _ _ c.loop-i.invariant.0 (omega arith) a _ c.place-p.ensures.place (sym c.state.ensures ∙ c.if-state-ne0.false)
    c.if-directory-p-ne-KIND.false _ (sym c.in_err-found.ensures) (λ q. let z : ◌≡◌ {A = ℕ} 0 1 = cc in omega arith)

pub returns-then-is_some : goal.returns-then-is_some
returns-then-is_some c =
    let d = c.args.directory.now in
    let a = directory_entry _ _ _ _ d.bytes d.indexed d.room d.within d.opens (c.loop-i.i - 1) (omega arith) in
    search_stop _ _ _ _ (stands_manifest _ _ _ d.within d.opens) _ _ _ c.loop-i.invariant.0 (omega arith) a _ c.place-p.ensures.place (sym c.state.ensures ∙ c.if-state-ne0.false)
    c.if-directory-p-ne-KIND.false _ (sym c.in_ok-found.ensures) (was_some _ (sym c.is_some.ensures ∙ c.if-is_some.true))

pub loop-i-preserved : goal.loop-i-preserved
loop-i-preserved c =
    let d = c.args.directory.now in
    let a = directory_entry _ _ _ _ d.bytes d.indexed d.room d.within d.opens (c.loop-i.i - 1) (omega arith) in (
      search_on _ _ _ _ (stands_manifest _ _ _ d.within d.opens) _ _ _ c.loop-i.invariant.0 (omega arith) a _ c.place-p.ensures.place (sym c.state.ensures ∙ c.if-state-ne0.false)
          c.if-directory-p-ne-KIND.false (sym c.in_ok-found.ensures ∙ was_none _ (sym c.is_some.ensures ∙ c.if-is_some.false)),
      omega (arith, c.loop-i.invariant.1),
    )

pub returns : goal.returns
returns c =
    let d = c.args.directory.now in
    search_last _ _ _ _ (stands_manifest _ _ _ d.within d.opens) _ c.loop-i.invariant.0 (omega arith)
