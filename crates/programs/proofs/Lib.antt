mod Loads
