use Rattle.util.specs.Text.{bytes_of}
use Rattle.state.proofs.usb3_state.Goals as goal

pub returns : goal.returns
unfolding bytes_of
returns c = c.flags_state.ensures
