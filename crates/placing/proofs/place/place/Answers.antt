use Rattle.std.proofs.Common.{◌<◌, ◌≤◌, length, sym, refl, ap, ◌∙◌, arith}
use Rattle.placing.proofs.Answered.{placed_short, placed_above, placed_ok, leaves_cells, leaves_ok}
use Rattle.placing.proofs.Supply.{supplied_cells_lem}
use Rattle.placing.proofs.Fits.{fits_exactly}
use Rattle.placing.proofs.place.place.Goals as goal

pub returns-then-places-lt-MOST_VALUES : goal.returns-then-places-lt-MOST_VALUES
returns-then-places-lt-MOST_VALUES c =
    let few : length c.args.places.now < 129 = omega arith in
    record { answer = placed_short _ _ _ few; after = refl; cells = refl; supplied = supplied_cells_lem _; exactly = fits_exactly _ }

pub returns-then-cells-arranged : goal.returns-then-cells-arranged
returns-then-cells-arranged c =
    let enough : 129 ≤ length c.args.places.now = omega arith in
    record { answer = placed_above _ _ _ _ enough (c.from.ensures ∙ c.arrange-arranged.ensures.used) (omega (arith, c.from.ensures)); after = refl; cells = refl; supplied = supplied_cells_lem _; exactly = fits_exactly _ }

pub returns : goal.returns
returns c =
    let enough : 129 ≤ length c.args.places.now = omega arith in
    let within : c.arrange-arranged.result.used ≤ c.args.cells = omega arith in
    let is = c.copy_from_slice.ensures.after ∙ c.deref.ensures.0 ∙ c.arrange-arranged.ensures.named in
    let long = c.len.ensures.value ∙ sym (ap length (c.copy_from_slice.ensures.after ∙ c.deref.ensures.0)) in
    record {
      answer = placed_ok _ _ _ _ enough c.arrange-arranged.ensures.used within;
      after = leaves_ok _ c.args.places.now c.copy_from_slice.new.self _ c.arrange-arranged.result.used long is;
      cells = leaves_cells _ c.args.places.now c.copy_from_slice.new.self _ c.arrange-arranged.result.used long is;
      supplied = supplied_cells_lem _;
      exactly = fits_exactly _;
    }
