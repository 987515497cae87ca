use Rattle.placing.proofs.Fits.{fits_exactly}
use Rattle.placing.proofs.place.cells_needed.Goals as goal

pub returns : goal.returns
returns c = record { value = c.arrange.ensures.used; exactly = fits_exactly _ }
