use Rattle.spu_image.proofs.TourRuns.{tour_apart, tour_enters, tour_keeps, tour_labels, tour_links, tour_meant, tour_points, tour_sends, tour_stays, tour_stops}
use Rattle.spu_image.proofs.laws.tour_runs_in_its_image.Goals as goal

pub returns-clause-enters : goal.returns-clause-enters
returns-clause-enters c told x file image can = tour_enters told x file image can

pub returns-clause-labels : goal.returns-clause-labels
returns-clause-labels c told x file image can = tour_labels told x file image can

pub returns-clause-links : goal.returns-clause-links
returns-clause-links c told x file image can = tour_links told x file image can

pub returns-clause-points : goal.returns-clause-points
returns-clause-points c told x file image can = tour_points told x file image can

pub returns-clause-sends : goal.returns-clause-sends
returns-clause-sends c told x file image can = tour_sends told x file image can

pub returns-clause-stops : goal.returns-clause-stops
returns-clause-stops c told x file image can = tour_stops told x file image can

pub returns-clause-meant : goal.returns-clause-meant
returns-clause-meant c told x file image can = tour_meant told x file image can

pub returns-clause-stays : goal.returns-clause-stays
returns-clause-stays c told x file image can = tour_stays told x file image can

pub returns-clause-keeps : goal.returns-clause-keeps
returns-clause-keeps c told x file image can = tour_keeps told x file image can

pub returns-clause-apart : goal.returns-clause-apart
returns-clause-apart c told x file image can = tour_apart told x file image can
