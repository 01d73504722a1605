use Rattle.spu_ideal.proofs.TourJudged.{tour_judged}
use Rattle.spu_ideal.proofs.laws.tours_is_judged.Goals as goal

pub returns : goal.returns
returns c = tour_judged
