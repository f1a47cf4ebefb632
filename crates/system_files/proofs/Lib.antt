mod NewPaths
mod OrderLists
