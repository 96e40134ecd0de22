-- Lists of values.
use Rattle.serde_json.proofs.Views.{items_len-items_view}

pub ruleset counts = (items_len-items_view)
