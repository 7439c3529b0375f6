use Rattle.guest.proofs.tests.fitting.Goals as goal

pub returns : goal.returns
returns g c = (8, c.fits_eight.ensures)
