pub mod LinkObjects
