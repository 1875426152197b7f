mod Fronts
mod Lists
mod NamedLines
