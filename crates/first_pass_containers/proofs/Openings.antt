-- How containers begin and are opened, definitions of definition lists too.
pub mod HeadLemmas
pub mod Indented
pub mod OpenerLemmas
pub mod StartLemmas
