pub mod Common
pub mod KindLemmas
pub mod PlainKinds
mod PlainLines
mod FirstBytes
pub mod MarkBytes
mod NoHeads
