-- What is kept of a bench with its image.
use Rattle.bench_model.specs.ValidBench.{IsValidBench}
use Rattle.image_words.specs.Image.{Encodes}
use Rattle.bus_text.specs.declared.image.BenchImage.TheInside.{Inside}

-- the words encode the bench, which is valid
pub record IsImage (image : Inside) : Type 0 where
  pub encodes : Encodes image.words.items image.bench
  pub valid : IsValidBench image.bench
