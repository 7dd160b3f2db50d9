use Rattle.region_store.proofs.UseLaws.{image_fits}
use Rattle.region_store.proofs.laws.the_image_of_a_use_fits.Goals as goal

pub returns : goal.returns
returns c = image_fits
